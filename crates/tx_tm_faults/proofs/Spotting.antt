-- The scan, from byte to byte.
use Rattle.std.proofs.Common.{◌≡◌, ℕ, suc, ◌+◌, ◌<◌, ◌≤◌, false, List, [], ◌∷◌, ◌++◌, length, take, drop, get_or, Some}
use Rattle.std.proofs.Common.{sym, ap, subst, ◌∙◌, append_assoc, length-append, arith}
use Rattle.std.specs.List.{flat_map}
use Rattle.std.proofs.lemmas.List.{length-take, take-append-drop, take_more}
use Rattle.tx_tm_form.specs.Tokens.{written}
use Rattle.tx_tm_form.specs.Machine.{Lex, at, step, run}
use Rattle.tx_tm_form.specs.Marks.{Marked, keep_marks, start_marks}
use Rattle.tx_tm_form.specs.Faults.{begun_bytes}
use Rattle.tx_tm_faults.specs.declared.scan.Scan.{Scan}
use Rattle.tx_tm_faults.specs.Stands.{standing_of, BytesStandAt}
use Rattle.tx_tm_words.specs.Words.{lex_of}
use Rattle.tx_tm_faults.specs.Scans.{scan_of}
use Rattle.tx_tm_form.proofs.Begun.{scanned_run, read_behind}
use Rattle.tx_tm_form.proofs.Passing.{marks_fold, taken_behind}
use Rattle.tx_tm_form.proofs.OneFault.{file_marked}
use Rattle.tx_tm_form.proofs.Stopping.{read_too, one_more}
use Rattle.tx_tm_form.proofs.Standing.{same_marked}
use Rattle.tx_tm_faults.proofs.Lexing.{part_there}

-- whole words, of so many bytes, and one that has begun
abbrev Taken : List ℕ → Lex → ℕ → Type 0
Taken x q n = (whole : List ℕ) × (x ≡ whole ++ begun_bytes q) × (n ≡ length whole)

words_taken : (x : List ℕ) (q : Lex) (m : Marked) → run keep_marks start_marks x ≡ at q m → Taken x q m.taken
words_taken x q m e =
    let r = read_too x q m e in
    let b = read_behind x q r.0 r.1 in
    let k : m ≡ marks_fold file_marked b.0 =
    same_marked q q m (marks_fold file_marked b.0)
    (sym e ∙ scanned_run Marked keep_marks x b.0 q file_marked b.1) in
    let t = taken_behind b.0 0 false file_marked.now in
    (flat_map written b.0, b.1.all, omega (arith, ap (λ y. y.taken) k, t))

abbrev marked_of : List ℕ → Scan → Marked
marked_of bytes s = record { taken = s.taken; behind_join = s.behind_join; now = Some (standing_of bytes s.stand) }

-- no more bytes were taken than there are
pub taken_so_far : (bytes : List ℕ) (n : ℕ) (s : Scan) → run keep_marks start_marks (take n bytes) ≡ scan_of bytes s
    → s.taken ≤ n
taken_so_far bytes n s e =
    let t = words_taken (take n bytes) (lex_of s.lexer) (marked_of bytes s) e in
    omega (arith, t.2, ap length t.1, length-append t.0 (begun_bytes (lex_of s.lexer)), length-take n bytes)

-- what has begun of a word, and the next byte, are after the bytes that were taken
pub begun_there : (bytes : List ℕ) (n : ℕ) (s : Scan) → n < length bytes
    → run keep_marks start_marks (take n bytes) ≡ scan_of bytes s
    → BytesStandAt bytes s.taken (begun_bytes (lex_of s.lexer) ++ get_or bytes n 0 ∷ [])
begun_there bytes n s lt e =
    let t = words_taken (take n bytes) (lex_of s.lexer) (marked_of bytes s) e in
    let q = begun_bytes (lex_of s.lexer) in
    let b = get_or bytes n 0 in
    let rest = drop (n + 1) bytes in
    let more : take (n + 1) bytes ≡ t.0 ++ (q ++ b ∷ []) = take_more bytes n 0 lt ∙ ap (λ z. z ++ b ∷ []) t.1
    ∙ append_assoc t.0 q (b ∷ []) in
    let all : bytes ≡ t.0 ++ ((q ++ b ∷ []) ++ rest) = sym (take-append-drop (n + 1) bytes) ∙ ap (λ z. z ++ rest) more
    ∙ append_assoc t.0 (q ++ b ∷ []) rest in
    subst (λ k. BytesStandAt bytes k (q ++ b ∷ [])) (sym t.2) (part_there t.0 (q ++ b ∷ []) rest bytes all)

pub scan_more : (bytes : List ℕ) (n : ℕ) (s next : Scan) → n < length bytes
    → run keep_marks start_marks (take n bytes) ≡ scan_of bytes s
    → scan_of bytes next ≡ step keep_marks (scan_of bytes s) (get_or bytes n 0)
    → run keep_marks start_marks (take (n + 1) bytes) ≡ scan_of bytes next
scan_more bytes n s next lt e g =
    let i : suc n ≡ n + 1 = omega arith in
    ap (λ k. run keep_marks start_marks (take k bytes)) (sym i) ∙ one_more bytes n (scan_of bytes s) lt e ∙ sym g
