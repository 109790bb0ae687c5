-- The bytes of words, and where labels are in them.
use Rattle.std.proofs.Common.{◌≡◌, ℕ, ◌+◌, Bool, true, false, nat_lt, nat_le, List, [], ◌∷◌, ◌++◌, length, take, drop}
use Rattle.std.proofs.Common.{refl, sym, ap, subst, ◌∙◌, append_assoc, arith}
use Rattle.std.proofs.Math.Seq.{take-append_seam, drop-append_seam}
use Rattle.std.proofs.lemmas.List.{take-append-drop, drop-drop}
use Rattle.tx_tree.specs.declared.TheConstants.{MOST_LABEL}
use Rattle.tx_tm_form.specs.declared.bytes.ByteKind.{ByteKind}
use Rattle.tx_tm_form.specs.declared.bytes.ByteKind.TheVariants.{Name, Blank, Newline, Return, Less, Greater, Bar}
use Rattle.tx_tm_form.specs.declared.bytes.ByteKind.TheVariants.{Backslash, Hash, Slash, Other}
use Rattle.tx_tm_form.specs.declared.places.TagForm.{TagForm}
use Rattle.tx_tm_form.specs.Bytes.{kind_of, can_escape}
use Rattle.tx_tm_form.specs.Tokens.{Token, escape, head, form_mark, label_end, written}
use Rattle.tx_tm_form.specs.Machine.{Lex, ready, slashed, returned, angled, labelled, Lexed, within, done, if_good}
use Rattle.tx_tm_form.specs.Machine.{lex_ready, lex_slashed, lex_returned, lex_angled, lex_labelled, lex}
use Rattle.tx_tm_form.specs.Faults.{begun_bytes}
use Rattle.tx_tm_form.proofs.Words.{newline_only}
use Rattle.tx_tm_words.proofs.Stopping.{greater_only, bar_only}
use Rattle.tx_tm_faults.specs.Stands.{BytesStandAt}

-- ---- the bytes of a word

hash_only : (b : ℕ) → kind_of b ≡ Hash → b ≡ 35
unfolding kind_of
hash_only b e = grind arith

abbrev IsDone : List ℕ → Lexed → Type 0
IsDone x (done t) = x ≡ written t
IsDone x _ = Unit {0}

if_done : (c : Bool) (x : List ℕ) (t : Token) → x ≡ written t → IsDone x (if_good c (done t))
if_done true x t e = e
if_done false x t e = tt

if_within : (c : Bool) (x : List ℕ) (q : Lex) → IsDone x (if_good c (within q))
if_within true x q = tt
if_within false x q = tt

ready_done : (k : ByteKind) (b : ℕ) → kind_of b ≡ k → IsDone (b ∷ []) (lex_ready k b)
unfolding lex_ready
ready_done Blank b e = refl
ready_done Newline b e = refl
ready_done Return b e = refl
ready_done Less b e = tt
ready_done Greater b e = ap (λ z. z ∷ []) (greater_only b e)
ready_done Bar b e = ap (λ z. z ∷ []) (bar_only b e)
ready_done Backslash b e = tt
ready_done Name b e = refl
ready_done Hash b e = refl
ready_done Slash b e = refl
ready_done Other b e = refl

slashed_done : (k : ByteKind) (b : ℕ) → kind_of b ≡ k → IsDone (92 ∷ b ∷ []) (lex_slashed k b)
unfolding lex_slashed
slashed_done Newline b e = ap (λ z. 92 ∷ z ∷ []) (newline_only b e)
slashed_done Return b e = tt
slashed_done _ b e = if_done (can_escape b) (92 ∷ b ∷ []) (escape b) refl

returned_done : (k : ByteKind) (b : ℕ) → kind_of b ≡ k → IsDone (92 ∷ 13 ∷ b ∷ []) (lex_returned k)
unfolding lex_returned
returned_done Newline b e = ap (λ z. 92 ∷ 13 ∷ z ∷ []) (newline_only b e)
returned_done _ b e = tt

angled_done : (k : ByteKind) (b : ℕ) → kind_of b ≡ k → IsDone (60 ∷ b ∷ []) (lex_angled k b)
unfolding lex_angled
angled_done Backslash b e = tt
angled_done Bar b e = tt
angled_done Slash b e = tt
angled_done Hash b e = ap (λ z. 60 ∷ z ∷ []) (hash_only b e)
angled_done Name b e = tt
angled_done _ b e = tt

head_bytes : (form : TagForm) (l : List ℕ) (more : Bool) (b : ℕ) → b ≡ label_end more
    → begun_bytes (labelled form l) ++ b ∷ [] ≡ written (head form l more)
head_bytes form l more b e = ap (λ z. 60 ∷ z) (append_assoc (form_mark form) l (b ∷ []))
    ∙ ap (λ z. 60 ∷ (form_mark form ++ (l ++ z ∷ []))) e

labelled_done : (k : ByteKind) (form : TagForm) (l : List ℕ) (b : ℕ) → kind_of b ≡ k
    → IsDone (begun_bytes (labelled form l) ++ b ∷ []) (lex_labelled form l k b)
unfolding lex_labelled
labelled_done Name form l b e =
    if_within (nat_lt (length l) MOST_LABEL) (begun_bytes (labelled form l) ++ b ∷ []) (labelled form (l ++ b ∷ []))
labelled_done Bar form l b e =
    if_done (nat_le 1 (length l)) (begun_bytes (labelled form l) ++ b ∷ []) (head form l true)
    (head_bytes form l true b (bar_only b e))
labelled_done Greater form l b e =
    if_done (nat_le 1 (length l)) (begun_bytes (labelled form l) ++ b ∷ []) (head form l false)
    (head_bytes form l false b (greater_only b e))
labelled_done _ form l b e = tt

lex_done : (q : Lex) (b : ℕ) → IsDone (begun_bytes q ++ b ∷ []) (lex q (kind_of b) b)
lex_done ready b = ready_done (kind_of b) b refl
lex_done slashed b = slashed_done (kind_of b) b refl
lex_done returned b = returned_done (kind_of b) b refl
lex_done angled b = angled_done (kind_of b) b refl
lex_done (labelled form l) b = labelled_done (kind_of b) form l b refl

-- a word that the byte ends is what had begun of it, and the byte
pub word_bytes : (q : Lex) (b : ℕ) (t : Token) → done t ≡ lex q (kind_of b) b → begun_bytes q ++ b ∷ [] ≡ written t
word_bytes q b t e = subst (IsDone (begun_bytes q ++ b ∷ [])) (sym e) (lex_done q b)

pub word_there : (bytes : List ℕ) (n : ℕ) (q : Lex) (b : ℕ) (t : Token) → done t ≡ lex q (kind_of b) b
    → BytesStandAt bytes n (begun_bytes q ++ b ∷ []) → BytesStandAt bytes n (written t)
word_there bytes n q b t e h = subst (BytesStandAt bytes n) (word_bytes q b t e) h

-- ---- a part between two others

pub part_there : (u v w x : List ℕ) → x ≡ u ++ (v ++ w) → BytesStandAt x (length u) v
part_there u v w x e =
    ap (λ z. take (length v) (drop (length u) z)) e ∙ ap (take (length v)) (drop-append_seam u (v ++ w))
    ∙ take-append_seam v w

-- the label of a word that is there
pub label_there : (bytes : List ℕ) (n : ℕ) (form : TagForm) (l : List ℕ) (more : Bool)
    → BytesStandAt bytes n (written (head form l more)) → BytesStandAt bytes (n + (1 + length (form_mark form))) l
label_there bytes n form l more h =
    let rest = drop (length (written (head form l more))) (drop n bytes) in
    let all : drop n bytes ≡ (60 ∷ form_mark form) ++ (l ++ (label_end more ∷ rest)) =
    sym (take-append-drop (length (written (head form l more))) (drop n bytes)) ∙ ap (λ z. z ++ rest) h
    ∙ ap (λ z. 60 ∷ z) (append_assoc (form_mark form) (l ++ label_end more ∷ []) rest
    ∙ ap (λ z. form_mark form ++ z) (append_assoc l (label_end more ∷ []) rest)) in
    let one : n + (1 + length (form_mark form)) ≡ n + length (60 ∷ form_mark form) = omega arith in
    ap (λ k. take (length l) (drop k bytes)) one
    ∙ sym (ap (take (length l)) (drop-drop (length (60 ∷ form_mark form)) n bytes))
    ∙ part_there (60 ∷ form_mark form) l (label_end more ∷ rest) (drop n bytes) all
