-- Bytes that are whole tokens, and after them one that has begun.
use Rattle.std.proofs.Common.{◌≡◌, ℕ, ◌+◌, ◌≤◌, true, List, [], ◌∷◌, ◌++◌, length, refl, sym, ap, subst, ◌∙◌}
use Rattle.std.proofs.Common.{append_assoc, length-append, arith}
use Rattle.std.specs.List.{AllByRecursion, flat_map}
use Rattle.std.proofs.lemmas.List.{append-nil}
use Rattle.tx_tree.specs.declared.TheConstants.{MOST_LABEL}
use Rattle.tx_tree.specs.Labels.{is_label_byte}
use Rattle.tx_tm_form.specs.declared.bytes.ByteKind.TheVariants.{Return, Backslash, Bar, Slash}
use Rattle.tx_tm_form.specs.declared.places.TagForm.{TagForm}
use Rattle.tx_tm_form.specs.declared.places.TagForm.TheVariants.{Short, Long, Middle, Closing}
use Rattle.tx_tm_form.specs.Bytes.{kind_of}
use Rattle.tx_tm_form.specs.Tokens.{Token, form_mark, written}
use Rattle.tx_tm_form.specs.Machine.{Lex, ready, slashed, returned, angled, labelled, lex_slashed, lex_angled, Bytewise}
use Rattle.tx_tm_form.specs.Machine.{at, after_lexed, step, run, Keeping, keep, keeps, start}
use Rattle.tx_tm_form.specs.Faults.{begun_bytes, IsBegun, IsScanned}
use Rattle.tx_tm_form.proofs.Words.{return_kind, bar_kind, backslash_kind, slash_kind, name_kind, lexed_first}
use Rattle.tx_tm_form.proofs.Words.{lexed_letter, byte_of, backslash_step, less_step, folds, tokens_run, folds_keeps}
use Rattle.tx_tm_form.proofs.Words.{file_start}
use Rattle.tx_tm_form.proofs.Taken.{Scanned, run_scanned}

module _ (S : Type 0) (fd : S → Token → S) where
  letters_run : (l m : List ℕ) (form : TagForm) (s : S) → AllByRecursion (λ b. is_label_byte b ≡ true) l
      → length m + length l ≤ MOST_LABEL → run fd (at (labelled form m) s) l ≡ at (labelled form (m ++ l)) s
  letters_run [] m form s h n = ap (λ a. run fd (at (labelled form a) s) []) (sym (append-nil m))
  letters_run (b ∷ l) m form s h n =
      ap (λ r. run fd (after_lexed fd s r) l) (lexed_letter form m (kind_of b) b (name_kind b h.0) (omega arith))
      ∙ letters_run l (m ++ b ∷ []) form s h.1 (omega (arith, length-append m (b ∷ [])))
      ∙ ap (λ a. run fd (at (labelled form a) s) []) (append_assoc m (b ∷ []) l)

  label_begun : (form : TagForm) (l : List ℕ) (s : S) → IsBegun (labelled form l)
      → run fd (at angled s) (form_mark form ++ l) ≡ at (labelled form l) s
  unfolding lex_angled
  label_begun Short [] s h = absurd (omega (arith, h.1))
  label_begun Short (b ∷ l) s h =
      ap (λ r. run fd (after_lexed fd s r) l) (lexed_first (kind_of b) b (name_kind b h.0.0.0))
      ∙ letters_run l (b ∷ []) Short s h.0.0.1 (omega (arith, h.0.1))
  label_begun Long l s h = byte_of S fd Backslash 92 angled s l backslash_kind
      ∙ letters_run l [] Long s h.0.0 (omega (arith, h.0.1))
  label_begun Middle l s h =
      byte_of S fd Bar 124 angled s l bar_kind ∙ letters_run l [] Middle s h.0.0 (omega (arith, h.0.1))
  label_begun Closing l s h =
      byte_of S fd Slash 47 angled s l slash_kind ∙ letters_run l [] Closing s h.0.0 (omega (arith, h.0.1))

  begun_run : (q : Lex) (s : S) → IsBegun q → run fd (at ready s) (begun_bytes q) ≡ at q s
  unfolding lex_slashed
  begun_run ready s h = refl
  begun_run slashed s h = backslash_step S fd s []
  begun_run returned s h = backslash_step S fd s (13 ∷ []) ∙ byte_of S fd Return 13 slashed s [] return_kind
  begun_run angled s h = less_step S fd s []
  begun_run (labelled form l) s h = less_step S fd s (form_mark form ++ l) ∙ label_begun form l s h

  pub run_behind : (x y : List ℕ) (w : Bytewise S) → run fd w (x ++ y) ≡ run fd (run fd w x) y
  run_behind [] y w = refl
  run_behind (b ∷ x) y w = run_behind x y (step fd w b)

  -- the state after such bytes
  pub scanned_run : (x : List ℕ) (ts : List Token) (q : Lex) (s : S) → IsScanned x ts q
      → run fd (at ready s) x ≡ at q (folds S fd s ts)
  scanned_run x ts q s h =
      ap (λ z. run fd (at ready s) z) h.all
      ∙ run_behind (flat_map written ts) (begun_bytes q) (at ready s)
      ∙ ap (λ w. run fd w (begun_bytes q)) (tokens_run S fd ts s h.each)
      ∙ begun_run q (folds S fd s ts) h.begun

abbrev pub Behind : List ℕ → Lex → Keeping → Type 0
Behind x q k = (ts : List Token) × IsScanned x ts q × (k ≡ keeps file_start ts)

behind_of : (w : Bytewise Keeping) (x : List ℕ) (q : Lex) (k : Keeping) → w ≡ at q k → Scanned w x → Behind x q k
behind_of w x q k e h =
    let s : Scanned (at q k) x = subst (λ z. Scanned z x) e h in
    (s.0, record { each = s.1; begun = s.3; all = s.4 }, s.2)

-- bytes that the machine reads are such
pub read_behind : (x : List ℕ) (q : Lex) (k : Keeping) → run keep start x ≡ at q k → Behind x q k
read_behind x q k e = behind_of (run keep start x) x q k e (run_scanned x [] start ([], tt, refl, tt, refl))

same_at : (p q : Lex) (j k : Keeping) → (let x : Bytewise Keeping = at p j in x) ≡ at q k → (p ≡ q) × (j ≡ k)
same_at p q j k e = (cc, cc)

-- in one way
pub behind_once : (x : List ℕ) (q r : Lex) (k : Keeping) (ts : List Token) → run keep start x ≡ at q k
    → IsScanned x ts r → (q ≡ r) × (k ≡ keeps file_start ts)
behind_once x q r k ts e h =
    same_at q r k (keeps file_start ts) (sym e ∙ scanned_run Keeping keep x ts r file_start h
    ∙ ap (at r) (folds_keeps ts file_start))
