-- What is read byte by byte is spelled so.
use Rattle.std.proofs.Common.{◌≡◌, ℕ, ◌≤◌, Bool, true, false, nat_le, nat_lt, if◌then◌else◌, List, [], ◌∷◌, ◌++◌}
use Rattle.std.proofs.Common.{length, Some, refl, sym, ap, subst, ◌∙◌, append_assoc, length-append, arith}
use Rattle.std.specs.List.{AllByRecursion, flat_map}
use Rattle.std.proofs.lemmas.List.{append-nil}
use Rattle.std.proofs.lemmas.List.Concat.{flat_map-append}
use Rattle.std.proofs.lemmas.Bool.{ltb-true, leb-true}
use Rattle.tx_tree.specs.declared.TheConstants.{MOST_LABEL}
use Rattle.tx_tree.specs.Labels.{is_label_byte}
use Rattle.tx_tree.specs.WideTree.{WideTree}
use Rattle.tx_tm_form.specs.declared.bytes.ByteKind.{ByteKind}
use Rattle.tx_tm_form.specs.declared.bytes.ByteKind.TheVariants.{Name, Blank, Newline, Return, Less, Greater, Bar}
use Rattle.tx_tm_form.specs.declared.bytes.ByteKind.TheVariants.{Backslash, Hash, Slash, Other}
use Rattle.tx_tm_form.specs.declared.places.TagForm.{TagForm}
use Rattle.tx_tm_form.specs.declared.places.TagForm.TheVariants.{Short, Long, Middle, Closing}
use Rattle.tx_tm_form.specs.Bytes.{kind_of, is_white, is_plain, can_escape}
use Rattle.tx_tm_form.specs.Tokens.{Token, escape, head, form_mark, label_end, written, IsToken, is_dropped}
use Rattle.tx_tm_form.specs.Tokens.{without_joins}
use Rattle.tx_tm_form.specs.Parts.{block}
use Rattle.tx_tm_form.specs.Forms.{Pieces, nothing, tokens_of, piece_parts, Spells}
use Rattle.tx_tm_form.specs.Growing.{file_tree}
use Rattle.tx_tm_form.specs.Machine.{State, reading, naming, counting, failed, feeds, Lex, ready, slashed, returned}
use Rattle.tx_tm_form.specs.Machine.{angled, labelled, Lexed, within, done, bad, if_good, lex_ready, lex_slashed}
use Rattle.tx_tm_form.specs.Machine.{lex_returned, lex_angled, lex_labelled, lex, Bytewise, at, lost, after_lexed, step}
use Rattle.tx_tm_form.specs.Machine.{run}
use Rattle.tx_tm_form.specs.Machine.{Keeping, keep, keeps, start, state_tree, tree_in, reads}
use Rattle.tx_tm_form.specs.Faults.{begun_bytes, HasByte, IsBegun}
use Rattle.tx_tm_form.proofs.Growth.{file_is}
use Rattle.tx_tm_form.proofs.Words.{newline_only, return_only, keeps_state, file_state, file_start}
use Rattle.tx_tm_form.proofs.Sound.{Took, feeds_took}

less_only : (b : ℕ) → kind_of b ≡ Less → b ≡ 60
unfolding kind_of
less_only b e = grind arith

greater_only : (b : ℕ) → kind_of b ≡ Greater → b ≡ 62
unfolding kind_of
greater_only b e = grind arith

bar_only : (b : ℕ) → kind_of b ≡ Bar → b ≡ 124
unfolding kind_of
bar_only b e = grind arith

backslash_only : (b : ℕ) → kind_of b ≡ Backslash → b ≡ 92
unfolding kind_of
backslash_only b e = grind arith

hash_only : (b : ℕ) → kind_of b ≡ Hash → b ≡ 35
unfolding kind_of
hash_only b e = grind arith

slash_only : (b : ℕ) → kind_of b ≡ Slash → b ≡ 47
unfolding kind_of
slash_only b e = grind arith

name_only : (b : ℕ) → kind_of b ≡ Name → is_label_byte b ≡ true
unfolding kind_of
name_only b e = grind arith

label_last : (a : List ℕ) (x : ℕ) → AllByRecursion (λ b. is_label_byte b ≡ true) a → is_label_byte x ≡ true
    → AllByRecursion (λ b. is_label_byte b ≡ true) (a ++ x ∷ [])
label_last [] x h k = (k, tt)
label_last (b ∷ a) x h k = (h.0, label_last a x h.1 k)

abbrev pub Comes : List ℕ → Lexed → Type 0
Comes x (within q) = IsBegun q × (x ≡ begun_bytes q)
Comes x (done t) = IsToken t × (x ≡ written t)
Comes x bad = Unit {0}

if_comes : (c : Bool) (x : List ℕ) (r : Lexed) → (c ≡ true → Comes x r) → Comes x (if_good c r)
if_comes true x r h = h refl
if_comes false x r h = tt

head_comes : (form : TagForm) (l : List ℕ) (more : Bool) (b : ℕ) → IsBegun (labelled form l) → b ≡ label_end more
    → 1 ≤ length l → Comes (begun_bytes (labelled form l) ++ b ∷ []) (done (head form l more))
head_comes form l more b h e n = (
  record { each = h.0.0; some = n; short = h.0.1 },
  ap (λ z. 60 ∷ z) (append_assoc (form_mark form) l (b ∷ []))
      ∙ ap (λ z. 60 ∷ (form_mark form ++ (l ++ z ∷ []))) e,
)

ready_comes : (k : ByteKind) (b : ℕ) → kind_of b ≡ k → Comes (b ∷ []) (lex_ready k b)
unfolding lex_ready
ready_comes Blank b e = (ap is_white e, refl)
ready_comes Newline b e = (ap is_white e, refl)
ready_comes Return b e = (ap is_white e, refl)
ready_comes Less b e = (tt, ap (λ z. z ∷ []) (less_only b e))
ready_comes Greater b e = (tt, ap (λ z. z ∷ []) (greater_only b e))
ready_comes Bar b e = (tt, ap (λ z. z ∷ []) (bar_only b e))
ready_comes Backslash b e = (tt, ap (λ z. z ∷ []) (backslash_only b e))
ready_comes Name b e = (ap is_plain e, refl)
ready_comes Hash b e = (ap is_plain e, refl)
ready_comes Slash b e = (ap is_plain e, refl)
ready_comes Other b e = (ap is_plain e, refl)

slashed_comes : (k : ByteKind) (b : ℕ) → kind_of b ≡ k → Comes (92 ∷ b ∷ []) (lex_slashed k b)
unfolding lex_slashed
slashed_comes Newline b e = (tt, ap (λ z. 92 ∷ z ∷ []) (newline_only b e))
slashed_comes Return b e = (tt, ap (λ z. 92 ∷ z ∷ []) (return_only b e))
slashed_comes _ b e = if_comes (can_escape b) (92 ∷ b ∷ []) (done (escape b)) (λ h. (h, refl))

returned_comes : (k : ByteKind) (b : ℕ) → kind_of b ≡ k → Comes (92 ∷ 13 ∷ b ∷ []) (lex_returned k)
unfolding lex_returned
returned_comes Newline b e = (tt, ap (λ z. 92 ∷ 13 ∷ z ∷ []) (newline_only b e))
returned_comes _ b e = tt

angled_comes : (k : ByteKind) (b : ℕ) → kind_of b ≡ k → Comes (60 ∷ b ∷ []) (lex_angled k b)
unfolding lex_angled
angled_comes Backslash b e = (((tt, omega arith), tt), ap (λ z. 60 ∷ z ∷ []) (backslash_only b e))
angled_comes Bar b e = (((tt, omega arith), tt), ap (λ z. 60 ∷ z ∷ []) (bar_only b e))
angled_comes Slash b e = (((tt, omega arith), tt), ap (λ z. 60 ∷ z ∷ []) (slash_only b e))
angled_comes Hash b e = (tt, ap (λ z. 60 ∷ z ∷ []) (hash_only b e))
angled_comes Name b e = ((((name_only b e, tt), omega arith), omega arith), refl)
angled_comes _ b e = tt

has_byte : (form : TagForm) (l : List ℕ) (b : ℕ) → HasByte form (l ++ b ∷ [])
has_byte Short l b = omega (arith, length-append l (b ∷ []))
has_byte Long l b = tt
has_byte Middle l b = tt
has_byte Closing l b = tt

labelled_comes : (k : ByteKind) (form : TagForm) (l : List ℕ) (b : ℕ) → kind_of b ≡ k → IsBegun (labelled form l)
    → Comes (begun_bytes (labelled form l) ++ b ∷ []) (lex_labelled form l k b)
unfolding lex_labelled
labelled_comes Name form l b e h =
    if_comes (nat_lt (length l) MOST_LABEL) (begun_bytes (labelled form l) ++ b ∷ [])
    (within (labelled form (l ++ b ∷ [])))
    (λ n. (
      (
        (label_last l b h.0.0 (name_only b e), omega (arith, length-append l (b ∷ []), ltb-true _ _ n)),
        has_byte form l b,
      ),
      ap (λ z. 60 ∷ z) (append_assoc (form_mark form) l (b ∷ [])),
    ))
labelled_comes Bar form l b e h =
    if_comes (nat_le 1 (length l)) (begun_bytes (labelled form l) ++ b ∷ []) (done (head form l true))
    (λ n. head_comes form l true b h (bar_only b e) (leb-true _ _ n))
labelled_comes Greater form l b e h =
    if_comes (nat_le 1 (length l)) (begun_bytes (labelled form l) ++ b ∷ []) (done (head form l false))
    (λ n. head_comes form l false b h (greater_only b e) (leb-true _ _ n))
labelled_comes _ form l b e h = tt

lex_comes : (q : Lex) (b : ℕ) → IsBegun q → Comes (begun_bytes q ++ b ∷ []) (lex q (kind_of b) b)
lex_comes ready b h = ready_comes (kind_of b) b refl
lex_comes slashed b h = slashed_comes (kind_of b) b refl
lex_comes returned b h = returned_comes (kind_of b) b refl
lex_comes angled b h = angled_comes (kind_of b) b refl
lex_comes (labelled form l) b h = labelled_comes (kind_of b) form l b refl h

tokens_last : (ts : List Token) (t : Token) → AllByRecursion IsToken ts → IsToken t
    → AllByRecursion IsToken (ts ++ t ∷ [])
tokens_last [] t h k = (k, tt)
tokens_last (u ∷ ts) t h k = (h.0, tokens_last ts t h.1 k)

keeps_last : (ts : List Token) (k : Keeping) (t : Token) → keep (keeps k ts) t ≡ keeps k (ts ++ t ∷ [])
keeps_last [] k t = refl
keeps_last (u ∷ ts) k t = keeps_last ts (keep k u) t

-- the bytes so far are whole tokens and one that has begun
abbrev pub Scanned : Bytewise Keeping → List ℕ → Type 0
Scanned (at q k) x = (ts : List Token) × AllByRecursion IsToken ts × (k ≡ keeps file_start ts) × IsBegun q
    × (x ≡ flat_map written ts ++ begun_bytes q)
Scanned lost x = Unit {0}

given_scanned : (r : Lexed) (q : Lex) (k : Keeping) (x : List ℕ) (b : ℕ) → Scanned (at q k) x
    → Comes (begun_bytes q ++ b ∷ []) r → Scanned (after_lexed keep k r) (x ++ b ∷ [])
given_scanned (within p) q k x b h i =
    (h.0, h.1, h.2, i.0, rw (h.4, ← i.1) (append_assoc (flat_map written h.0) (begun_bytes q) (b ∷ [])))
given_scanned (done t) q k x b h i = (
  h.0 ++ t ∷ [],
  tokens_last h.0 t h.1 i.0,
  ap (λ z. keep z t) h.2 ∙ keeps_last h.0 file_start t,
  tt,
  rw (h.4, flat_map-append written h.0 (t ∷ []), ← i.1) (simp (append_assoc, append-nil) refl),
)
given_scanned bad q k x b h i = tt

step_scanned : (w : Bytewise Keeping) (x : List ℕ) (b : ℕ) → Scanned w x → Scanned (step keep w b) (x ++ b ∷ [])
step_scanned (at q k) x b h = given_scanned (lex q (kind_of b) b) q k x b h (lex_comes q b h.3)
step_scanned lost x b h = tt

pub run_scanned : (y x : List ℕ) (w : Bytewise Keeping) → Scanned w x → Scanned (run keep w y) (x ++ y)
run_scanned [] x w h = subst (λ z. Scanned w z) (sym (append-nil x)) h
run_scanned (b ∷ y) x w h =
    subst (λ z. Scanned (run keep (step keep w b) y) z) (append_assoc x (b ∷ []) y)
    (run_scanned y (x ++ b ∷ []) (step keep w b) (step_scanned w x b h))

pub kept_tokens : (ts : List Token) (j : Bool) → AllByRecursion IsToken ts → AllByRecursion IsToken (without_joins j ts)
kept_tokens [] j h = tt
kept_tokens (t ∷ ts) j h =
    elim (is_dropped j t) as (λ z. AllByRecursion IsToken
    (if z then without_joins true ts else t ∷ without_joins false ts)) [
      | true ↦ kept_tokens ts true h.1
      | false ↦ (h.0, kept_tokens ts false h.1)
    ]

same_tree : (u t : WideTree) → Some u ≡ Some t → t ≡ u
same_tree u t e = cc

file_of : (s : State) (t : WideTree) (ts : List Token) → state_tree s ≡ Some t → Took s ts
    → (c : Pieces) × (ts ≡ tokens_of c) × (t ≡ block (piece_parts c))
file_of (reading here []) t ts e h =
    (h.0, h.2, same_tree (block (piece_parts h.0)) t (sym (file_is (piece_parts h.0)) ∙ ap file_tree (sym h.1) ∙ e))
file_of (reading here (f ∷ fs)) t ts e h = absurd cc
file_of (naming n here fs) t ts e h = absurd cc
file_of (counting ds here fs) t ts e h = absurd cc
file_of failed t ts e h = absurd cc

whole_of : (w : Bytewise Keeping) (x : List ℕ) (t : WideTree) → tree_in w ≡ Some t → Scanned w x → Spells x t
whole_of (at ready k) x t e h =
    let s : k.state ≡ feeds file_state (without_joins false h.0) = ap (λ z. z.state) h.2
    ∙ keeps_state h.0 false file_state in
    let took : Took (feeds file_state (without_joins false h.0)) (without_joins false h.0) =
    feeds_took (without_joins false h.0) file_state [] (kept_tokens h.0 false h.1) (nothing, refl, refl) in
    let c = file_of (feeds file_state (without_joins false h.0)) t (without_joins false h.0)
    (sym (ap state_tree s) ∙ e) took in
    record {
      tokens = h.0;
      file = c.0;
      found = record { each = h.1; all = h.4 ∙ append-nil (flat_map written h.0) };
      formed = c.1;
      meant = c.2;
    }
whole_of (at slashed k) x t e h = absurd cc
whole_of (at returned k) x t e h = absurd cc
whole_of (at angled k) x t e h = absurd cc
whole_of (at (labelled form l) k) x t e h = absurd cc
whole_of lost x t e h = absurd cc

pub read_is_spelled : (bytes : List ℕ) (t : WideTree) → reads bytes ≡ Some t → Spells bytes t
unfolding reads
read_is_spelled bytes t e =
    whole_of (run keep start bytes) bytes t e (run_scanned bytes [] start ([], tt, refl, tt, refl))
