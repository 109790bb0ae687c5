-- The loop over the bytes.
use Rattle.std.proofs.Common.{◌≡◌, ℕ, ◌+◌, ◌<◌, ◌≤◌, Bool, true, false, cond, List, [], ◌∷◌, ◌++◌, length, get_or, drop}
use Rattle.std.proofs.Common.{None, refl, sym, ap, ◌∙◌}
use Rattle.std.proofs.lemmas.List.{drop_more, drop_all}
use Rattle.tx_scm.specs.Kinds.{kind_of}
use Rattle.tx_scm.specs.Machine.{Open, State, Bounds, texting, failed, the_limits, within, only_if, lengthened}
use Rattle.tx_scm.specs.Machine.{step_texting, step, tree_in, completes, reads}
use Rattle.tx_scm.proofs.ByteKinds.{is_quote_kind, is_backslash_kind}
use Rattle.tx_scm.specs.declared.kinds.Kind.{Kind}
use Rattle.tx_scm.specs.declared.kinds.Kind.TheVariants.{Quote, Backslash}
use Rattle.tx_tree.specs.TextScan.{takes_byte}

pub failed_run : (bounds : Bounds) (x : List ℕ) → completes bounds failed x ≡ None
failed_run bounds [] = refl
failed_run bounds (b ∷ x) = failed_run bounds x

-- ---- one step

module _ (bytes : List ℕ) (s : State) (i b : ℕ) (lt : i < length bytes) (is : get_or bytes i 0 ≡ b) where
  pub step_more : (t : State) → t ≡ step (within the_limits) s (kind_of b) b
      → reads s (drop i bytes) ≡ reads t (drop (i + 1) bytes)
  unfolding reads
  step_more t e = ap (λ x. reads s x) (drop_more bytes i 0 lt ∙ ap (λ b. b ∷ drop (i + 1) bytes) is)
      ∙ ap (λ t. reads t (drop (i + 1) bytes)) (sym e)

  pub step_fails : failed ≡ step (within the_limits) s (kind_of b) b → reads s (drop i bytes) ≡ None
  unfolding reads
  step_fails e = step_more failed e ∙ failed_run (within the_limits) (drop (i + 1) bytes)

pub at_end : (s : State) (bytes : List ℕ) (i : ℕ) → length bytes ≤ i → reads s (drop i bytes) ≡ tree_in s
unfolding reads
at_end s bytes i le = ap (λ x. reads s x) (drop_all i bytes le)

-- ---- plain bytes of a string

plain_step : (k : Kind) (b : ℕ) (text : List ℕ) (opens : List Open) → (k ≡ Quote → ⊥) → (k ≡ Backslash → ⊥)
    → step_texting (within the_limits) text opens k b ≡ lengthened (within the_limits) text opens b
unfolding step_texting
plain_step Quote b text opens q s = absurd (q refl)
plain_step Backslash b text opens q s = absurd (s refl)
plain_step _ b text opens q s = refl

module _ (b : ℕ) (text : List ℕ) (opens : List Open) (q : b ≡ 34 → ⊥) (s : b ≡ 92 → ⊥) where
  plain : step (within the_limits) (texting text opens) (kind_of b) b ≡ only_if (takes_byte text b)
      (texting (text ++ b ∷ []) opens)
  plain = plain_step (kind_of b) b text opens (λ e. q (is_quote_kind b e)) (λ e. s (is_backslash_kind b e))

  pub plain_taken : (taken : Bool) (after : List ℕ) → taken ≡ takes_byte text b
      → after ≡ cond taken (text ++ b ∷ []) text → taken ≡ true
      → texting after opens ≡ step (within the_limits) (texting text opens) (kind_of b) b
  plain_taken taken after is grown more =
      ap (λ x. texting x opens) (grown ∙ ap (λ c. cond c (text ++ b ∷ []) text) more)
      ∙ sym (plain ∙ ap (λ c. only_if c (texting (text ++ b ∷ []) opens)) (sym is ∙ more))

  pub plain_refused : (taken : Bool) → taken ≡ takes_byte text b → taken ≡ false
      → failed ≡ step (within the_limits) (texting text opens) (kind_of b) b
  plain_refused taken is no_more = sym (plain ∙ ap (λ c. only_if c (texting (text ++ b ∷ []) opens)) (sym is ∙ no_more))
