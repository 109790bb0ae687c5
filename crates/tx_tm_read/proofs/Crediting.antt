-- Credits of what a byte leaves.
use Rattle.std.proofs.Common.{ℕ, ◌+◌, ◌≤◌, Bool, true, false, List, [], ◌∷◌, ◌++◌, length, nat_lt}
use Rattle.std.proofs.Common.{nat_le, ap, arith}
use Rattle.std.proofs.lemmas.List.{length-append, length-take}
use Rattle.tx_tree.specs.declared.TheConstants.{MOST_LABEL}
use Rattle.tx_tm_form.specs.declared.bytes.ByteKind.{ByteKind}
use Rattle.tx_tm_form.specs.declared.bytes.ByteKind.TheVariants.{Name, Blank, Newline, Return, Less}
use Rattle.tx_tm_form.specs.declared.bytes.ByteKind.TheVariants.{Greater, Bar, Backslash, Hash, Slash}
use Rattle.tx_tm_form.specs.declared.places.TagForm.{TagForm}
use Rattle.tx_tm_form.specs.Bytes.{can_escape}
use Rattle.tx_tm_form.specs.Tokens.{escape, head, label_end}
use Rattle.tx_tm_form.specs.Machine.{Lex, ready, slashed, returned, angled, labelled, Lexed, within, done, if_good}
use Rattle.tx_tm_form.specs.Machine.{lex_ready, lex_slashed, lex_returned, lex_angled, lex_labelled, lex}
use Rattle.tx_tm_read.specs.declared.heads.Head.{Head}
use Rattle.tx_tm_read.specs.Heads.{StandsInFront}
use Rattle.tx_tm_read.specs.Credits.{lex_credit, lexed_credit}

-- ---- bytes

if_credit : (good : Bool) (r : Lexed) (n : ℕ) → lexed_credit r ≤ n → lexed_credit (if_good good r) ≤ n
if_credit true r n h = h
if_credit false r n h = omega arith

ready_credit : (k : ByteKind) (b : ℕ) → lexed_credit (lex_ready k b) ≤ 1
unfolding lex_ready
ready_credit Blank b = omega arith
ready_credit Newline b = omega arith
ready_credit Return b = omega arith
ready_credit Less b = omega arith
ready_credit Greater b = omega arith
ready_credit Bar b = omega arith
ready_credit Backslash b = omega arith
ready_credit _ b = omega arith

slashed_credit : (k : ByteKind) (b : ℕ) → lexed_credit (lex_slashed k b) ≤ 1
unfolding lex_slashed
slashed_credit Newline b = omega arith
slashed_credit Return b = omega arith
slashed_credit _ b = if_credit (can_escape b) (done (escape b)) 1 (omega arith)

returned_credit : (k : ByteKind) → lexed_credit (lex_returned k) ≤ 1
unfolding lex_returned
returned_credit Newline = omega arith
returned_credit _ = omega arith

angled_credit : (k : ByteKind) (b : ℕ) → lexed_credit (lex_angled k b) ≤ 1
unfolding lex_angled
angled_credit Backslash b = omega arith
angled_credit Bar b = omega arith
angled_credit Slash b = omega arith
angled_credit Hash b = omega arith
angled_credit Name b = omega arith
angled_credit _ b = omega arith

labelled_credit : (form : TagForm) (label : List ℕ) (k : ByteKind) (b : ℕ)
    → lexed_credit (lex_labelled form label k b) ≤ 2
unfolding lex_labelled
labelled_credit form label Name b =
    if_credit (nat_lt (length label) MOST_LABEL) (within (labelled form (label ++ b ∷ []))) 2 (omega arith)
labelled_credit form label Bar b = if_credit (nat_le 1 (length label)) (done (head form label true)) 2 (omega arith)
labelled_credit form label Greater b =
    if_credit (nat_le 1 (length label)) (done (head form label false)) 2 (omega arith)
labelled_credit form label _ b = omega arith

-- what a byte gives is paid for by it and by what had been read of the token
pub lex_paid : (q : Lex) (k : ByteKind) (b : ℕ) → lexed_credit (lex q k b) ≤ lex_credit q + 1
lex_paid ready k b = ready_credit k b
lex_paid slashed k b = slashed_credit k b
lex_paid returned k b = returned_credit k
lex_paid angled k b = angled_credit k b
lex_paid (labelled form label) k b = labelled_credit form label k b

pub head_long : (bytes : List ℕ) (h : Head) → StandsInFront bytes h → 2 ≤ h.taken
head_long bytes h s =
    omega (
      arith,
      length-take h.taken bytes,
      ap length s.there,
      length-append h.label (label_end h.more ∷ []),
    )
