-- The bytes of a token are read as that token.
use Rattle.std.proofs.Common.{◌≡◌, ℕ, ◌+◌, ◌≤◌, ◌<◌, Bool, true, false, if◌then◌else◌, List, [], ◌∷◌, ◌++◌, length}
use Rattle.std.proofs.Common.{Some, refl, sym, ap, ◌∙◌, append_assoc, length-append, arith}
use Rattle.std.specs.List.{AllByRecursion, flat_map}
use Rattle.std.proofs.lemmas.List.{append-nil}
use Rattle.std.proofs.lemmas.Bool.{lt-ltb, le-leb}
use Rattle.tx_tree.specs.declared.TheConstants.{MOST_LABEL}
use Rattle.tx_tree.specs.Labels.{is_label_byte, IsLabel}
use Rattle.tx_tree.specs.WideTree.{WideTree}
use Rattle.tx_tm_form.specs.declared.bytes.ByteKind.{ByteKind}
use Rattle.tx_tm_form.specs.declared.bytes.ByteKind.TheVariants.{Name, Blank, Newline, Return, Less, Greater, Bar}
use Rattle.tx_tm_form.specs.declared.bytes.ByteKind.TheVariants.{Backslash, Hash, Slash, Other}
use Rattle.tx_tm_form.specs.declared.places.TagForm.{TagForm}
use Rattle.tx_tm_form.specs.declared.places.TagForm.TheVariants.{Short, Long, Middle, Closing}
use Rattle.tx_tm_form.specs.Bytes.{kind_of, is_white, is_plain, escape_of, can_escape}
use Rattle.tx_tm_form.specs.Tokens.{Token, white, join, plain, escape, raw, head, bar, close, form_mark, label_end}
use Rattle.tx_tm_form.specs.Tokens.{written}
use Rattle.tx_tm_form.specs.Tokens.{IsToken, IsTokenList, is_dropped, without_joins}
use Rattle.tx_tm_form.specs.Forms.{tokens_of, piece_parts, Spells}
use Rattle.tx_tm_form.specs.Growing.{blocks, no_paragraphs}
use Rattle.tx_tm_form.specs.Machine.{State, reading, feed, feeds, Lex, ready, slashed, returned, angled, labelled}
use Rattle.tx_tm_form.specs.Machine.{within, done, if_good, lex_ready, lex_slashed, lex_returned, lex_angled}
use Rattle.tx_tm_form.specs.Machine.{lex_labelled, lex, Bytewise, at, after_lexed, run, Keeping, keep, keeps, start}
use Rattle.tx_tm_form.specs.Machine.{state_tree}
use Rattle.tx_tm_form.specs.Machine.{tree_in, reads}
use Rattle.tx_tm_form.proofs.Growth.{file_is}
use Rattle.tx_tm_form.proofs.Complete.{read_pieces}

-- ---- the kinds of bytes

pub newline_kind : kind_of 10 ≡ Newline
unfolding kind_of is_label_byte
newline_kind = refl

pub return_kind : kind_of 13 ≡ Return
unfolding kind_of is_label_byte
return_kind = refl

pub less_kind : kind_of 60 ≡ Less
unfolding kind_of is_label_byte
less_kind = refl

greater_kind : kind_of 62 ≡ Greater
unfolding kind_of is_label_byte
greater_kind = refl

pub bar_kind : kind_of 124 ≡ Bar
unfolding kind_of is_label_byte
bar_kind = refl

pub backslash_kind : kind_of 92 ≡ Backslash
unfolding kind_of is_label_byte
backslash_kind = refl

pub hash_kind : kind_of 35 ≡ Hash
unfolding kind_of is_label_byte
hash_kind = refl

pub slash_kind : kind_of 47 ≡ Slash
unfolding kind_of is_label_byte
slash_kind = refl

pub name_kind : (b : ℕ) → is_label_byte b ≡ true → kind_of b ≡ Name
unfolding kind_of
name_kind b h = grind arith

pub newline_only : (b : ℕ) → kind_of b ≡ Newline → b ≡ 10
unfolding kind_of
newline_only b e = grind arith

pub return_only : (b : ℕ) → kind_of b ≡ Return → b ≡ 13
unfolding kind_of
return_only b e = grind arith

no_escape_newline : can_escape 10 ≡ true → ⊥
unfolding escape_of
no_escape_newline e = cc

no_escape_return : can_escape 13 ≡ true → ⊥
unfolding escape_of
no_escape_return e = cc

newline_not : (b : ℕ) → kind_of b ≡ Newline → can_escape b ≡ true → ⊥
newline_not b e h = no_escape_newline (sym (ap can_escape (newline_only b e)) ∙ h)

return_not : (b : ℕ) → kind_of b ≡ Return → can_escape b ≡ true → ⊥
return_not b e h = no_escape_return (sym (ap can_escape (return_only b e)) ∙ h)

-- ---- one byte

pub lexed_white : (k : ByteKind) (b : ℕ) → is_white k ≡ true → lex ready k b ≡ done (white b)
unfolding lex_ready
lexed_white Blank b h = refl
lexed_white Newline b h = refl
lexed_white Return b h = refl
lexed_white _ b h = absurd cc

pub lexed_plain : (k : ByteKind) (b : ℕ) → is_plain k ≡ true → lex ready k b ≡ done (plain b)
unfolding lex_ready
lexed_plain Name b h = refl
lexed_plain Hash b h = refl
lexed_plain Slash b h = refl
lexed_plain Other b h = refl
lexed_plain _ b h = absurd cc

lexed_escape : (k : ByteKind) (b : ℕ) → kind_of b ≡ k → can_escape b ≡ true → lex slashed k b ≡ done (escape b)
unfolding lex_slashed
lexed_escape Newline b e h = absurd (newline_not b e h)
lexed_escape Return b e h = absurd (return_not b e h)
lexed_escape _ b e h = ap (λ c. if_good c (done (escape b))) h

pub lexed_first : (k : ByteKind) (b : ℕ) → k ≡ Name → lex angled k b ≡ within (labelled Short (b ∷ []))
unfolding lex_angled
lexed_first k b h = ap (λ k. lex angled k b) h

pub lexed_letter : (form : TagForm) (m : List ℕ) (k : ByteKind) (b : ℕ) → k ≡ Name → length m < MOST_LABEL
    → lex (labelled form m) k b ≡ within (labelled form (m ++ b ∷ []))
unfolding lex_labelled
lexed_letter form m k b h n =
    ap (λ k. lex (labelled form m) k b) h ∙ ap (λ c. if_good c (within (labelled form (m ++ b ∷ [])))) (lt-ltb _ _ n)

module _ (S : Type 0) (fd : S → Token → S) where
  -- a byte of a known kind
  pub byte_of : (k : ByteKind) (b : ℕ) (q : Lex) (s : S) (y : List ℕ) → kind_of b ≡ k
      → run fd (at q s) (b ∷ y) ≡ run fd (after_lexed fd s (lex q k b)) y
  byte_of k b q s y e = ap (λ k. run fd (after_lexed fd s (lex q k b)) y) e

  pub backslash_step : (s : S) (y : List ℕ) → run fd (at ready s) (92 ∷ y) ≡ run fd (at slashed s) y
  unfolding lex_ready
  backslash_step s y = byte_of Backslash 92 ready s y backslash_kind

  pub less_step : (s : S) (y : List ℕ) → run fd (at ready s) (60 ∷ y) ≡ run fd (at angled s) y
  unfolding lex_ready
  less_step s y = byte_of Less 60 ready s y less_kind

  pub end_step : (more : Bool) (form : TagForm) (m : List ℕ) (s : S) (y : List ℕ) → 1 ≤ length m
      → run fd (at (labelled form m) s) (label_end more ∷ y) ≡ run fd (at ready (fd s (head form m more))) y
  unfolding lex_labelled
  end_step true form m s y n =
      byte_of Bar 124 (labelled form m) s y bar_kind
      ∙ ap (λ c. run fd (after_lexed fd s (if_good c (done (head form m true)))) y) (le-leb _ _ n)
  end_step false form m s y n = byte_of Greater 62 (labelled form m) s y greater_kind
      ∙ ap (λ c. run fd (after_lexed fd s (if_good c (done (head form m false)))) y) (le-leb _ _ n)

  pub label_run : (l m : List ℕ) (more : Bool) (form : TagForm) (s : S) (y : List ℕ)
      → AllByRecursion (λ b. is_label_byte b ≡ true) l → length m + length l ≤ MOST_LABEL → 1 ≤ length m + length l
      → run fd (at (labelled form m) s) (l ++ label_end more ∷ y) ≡ run fd (at ready (fd s (head form (m ++ l) more))) y
  label_run [] m more form s y h n k =
      end_step more form m s y (omega (arith, k))
      ∙ ap (λ a. run fd (at ready (fd s (head form a more))) y) (sym (append-nil m))
  label_run (b ∷ l) m more form s y h n k =
      ap (λ r. run fd (after_lexed fd s r) (l ++ label_end more ∷ y))
      (lexed_letter form m (kind_of b) b (name_kind b h.0) (omega arith))
      ∙ label_run l (m ++ b ∷ []) more form s y h.1 (omega (arith, length-append m (b ∷ [])))
      (omega (arith, length-append m (b ∷ [])))
      ∙ ap (λ a. run fd (at ready (fd s (head form a more))) y) (append_assoc m (b ∷ []) l)

  mark_run : (form : TagForm) (l : List ℕ) (more : Bool) (s : S) (y : List ℕ) → IsLabel l
      → run fd (at angled s) (form_mark form ++ (l ++ label_end more ∷ y))
      ≡ run fd (at ready (fd s (head form l more))) y
  unfolding lex_angled
  mark_run Short [] more s y h = absurd (omega (arith, h.some))
  mark_run Short (b ∷ l) more s y h =
      ap (λ r. run fd (after_lexed fd s r) (l ++ label_end more ∷ y)) (lexed_first (kind_of b) b (name_kind b h.each.0))
      ∙ label_run l (b ∷ []) more Short s y h.each.1 (omega (arith, h.short)) (omega arith)
  mark_run Long l more s y h = byte_of Backslash 92 angled s (l ++ label_end more ∷ y) backslash_kind
      ∙ label_run l [] more Long s y h.each (omega (arith, h.short)) (omega (arith, h.some))
  mark_run Middle l more s y h = byte_of Bar 124 angled s (l ++ label_end more ∷ y) bar_kind
      ∙ label_run l [] more Middle s y h.each (omega (arith, h.short)) (omega (arith, h.some))
  mark_run Closing l more s y h = byte_of Slash 47 angled s (l ++ label_end more ∷ y) slash_kind
      ∙ label_run l [] more Closing s y h.each (omega (arith, h.short)) (omega (arith, h.some))

  pub token_run : (t : Token) (s : S) (y : List ℕ) → IsToken t
      → run fd (at ready s) (written t ++ y) ≡ run fd (at ready (fd s t)) y
  unfolding lex_ready lex_slashed lex_returned lex_angled
  token_run (white b) s y h = ap (λ r. run fd (after_lexed fd s r) y) (lexed_white (kind_of b) b h)
  token_run (plain b) s y h = ap (λ r. run fd (after_lexed fd s r) y) (lexed_plain (kind_of b) b h)
  token_run (join true) s y h = backslash_step s (13 ∷ 10 ∷ y) ∙ byte_of Return 13 slashed s (10 ∷ y) return_kind
      ∙ byte_of Newline 10 returned s y newline_kind
  token_run (join false) s y h = backslash_step s (10 ∷ y) ∙ byte_of Newline 10 slashed s y newline_kind
  token_run (escape b) s y h =
      backslash_step s (b ∷ y) ∙ ap (λ r. run fd (after_lexed fd s r) y) (lexed_escape (kind_of b) b refl h)
  token_run raw s y h = less_step s (35 ∷ y) ∙ byte_of Hash 35 angled s y hash_kind
  token_run (head form l more) s y h =
      less_step s ((form_mark form ++ (l ++ label_end more ∷ [])) ++ y)
      ∙ ap (λ z. run fd (at angled s) z) (append_assoc (form_mark form) (l ++ label_end more ∷ []) y
      ∙ ap (λ z. form_mark form ++ z) (append_assoc l (label_end more ∷ []) y))
      ∙ mark_run form l more s y h
  token_run bar s y h = byte_of Bar 124 ready s y bar_kind
  token_run close s y h = byte_of Greater 62 ready s y greater_kind

  -- the tokens one by one
  abbrev pub folds : S → List Token → S
  folds s [] = s
  folds s (t ∷ ts) = folds (fd s t) ts

  pub tokens_run : (ts : List Token) (s : S) → AllByRecursion IsToken ts
      → run fd (at ready s) (flat_map written ts) ≡ at ready (folds s ts)
  tokens_run [] s h = refl
  tokens_run (t ∷ ts) s h = token_run t s (flat_map written ts) h.0 ∙ tokens_run ts (fd s t) h.1

-- ---- one list of tokens

abbrev with_last : List Token → Token → List Token
with_last ts t = ts ++ t ∷ []

folds_last : (us ts : List Token) → folds (List Token) with_last ts us ≡ ts ++ us
folds_last [] ts = sym (append-nil ts)
folds_last (u ∷ us) ts = folds_last us (ts ++ u ∷ []) ∙ append_assoc ts (u ∷ []) us

same_state : (a b : List Token) → (let x : Bytewise (List Token) = at ready a in x) ≡ at ready b → a ≡ b
same_state a b e = cc

pub one_token_list : (bytes : List ℕ) (ts us : List Token) → IsTokenList bytes ts → IsTokenList bytes us → ts ≡ us
one_token_list bytes ts us h k =
    let a = ap (λ x. run with_last (at ready []) x) h.all ∙ tokens_run (List Token) with_last ts [] h.each in
    let b = ap (λ x. run with_last (at ready []) x) k.all ∙ tokens_run (List Token) with_last us [] k.each in
    sym (folds_last ts []) ∙ same_state _ _ (sym a ∙ b) ∙ folds_last us []

-- ---- joins

pub keeps_state : (ts : List Token) (j : Bool) (s : State)
    → (keeps (record { behind_join = j; state = s }) ts).state ≡ feeds s (without_joins j ts)
keeps_state [] j s = refl
keeps_state (t ∷ ts) j s =
    elim (is_dropped j t) as
    (λ d. (keeps
    (if d then record { behind_join = true; state = s } else record { behind_join = false; state = feed s t })
    ts).state ≡ feeds s (if d then without_joins true ts else t ∷ without_joins false ts)) [
      | true ↦ keeps_state ts true s
      | false ↦ keeps_state ts false (feed s t)
    ]

pub folds_keeps : (ts : List Token) (k : Keeping) → folds Keeping keep k ts ≡ keeps k ts
folds_keeps [] k = refl
folds_keeps (t ∷ ts) k = folds_keeps ts (keep k t)

abbrev pub file_state : State
file_state = reading (blocks no_paragraphs) []

abbrev pub file_start : Keeping
file_start = record { behind_join = false; state = file_state }

pub spelled_is_read : (bytes : List ℕ) (t : WideTree) → Spells bytes t → reads bytes ≡ Some t
unfolding reads
spelled_is_read bytes t h =
    ap (λ x. tree_in (run keep start x)) h.found.all
    ∙ ap tree_in (tokens_run Keeping keep h.tokens file_start h.found.each)
    ∙ ap (λ k. state_tree k.state) (folds_keeps h.tokens file_start)
    ∙ ap state_tree (keeps_state h.tokens false file_state
    ∙ ap (feeds file_state) (h.formed ∙ sym (append-nil (tokens_of h.file)))
    ∙ read_pieces h.file (blocks no_paragraphs) [] [])
    ∙ file_is (piece_parts h.file)
    ∙ ap Some (sym h.meant)

pub one_tree : (bytes : List ℕ) (t u : WideTree) → Spells bytes t → Spells bytes u → t ≡ u
one_tree bytes t u h k = let a = spelled_is_read bytes t h in let b = spelled_is_read bytes u k in cc
