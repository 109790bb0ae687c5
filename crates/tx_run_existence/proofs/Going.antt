-- Numbers name a place of the document, or there is a cause why not.
use Rattle.std.proofs.Common.{◌≡◌, ◌⊎◌, inl, inr, ℕ, List, [], ◌∷◌, ◌++◌, length, Option, Some, None, refl, sym, ap}
use Rattle.std.proofs.Common.{◌∙◌}
use Rattle.std.specs.Prelude.{IsSomeAnd, MatchOption}
use Rattle.std.proofs.lemmas.Bool.{cases_lt, cases_Bool, true≢false}
use Rattle.tx_tree.specs.Cuts.{is_cut}
use Rattle.tx_tree.specs.Limits.{IsWellFormed}
use Rattle.tx_tree.specs.Paths.{subtree, leading}
use Rattle.tx_tree.specs.Places.{IsOffset, IsOffsetFault, IsPlace, IsPlaceFault}
use Rattle.tx_tree.specs.WideTree.{WideTree, leaf, node}
use Rattle.tx_tree.specs.declared.faults.PlaceFault.{PlaceFault}
use Rattle.tx_tree.specs.declared.faults.PlaceFault.TheVariants.{NoPath, BadPlace, CutsSymbol}
use Rattle.tx_tree.proofs.Cutting.{cut_test, cut_tested}
use Rattle.tx_mod.proofs.Back.{well_formed_at}

offset_of : (s : WideTree) (o : ℕ) → IsWellFormed s → IsOffset s o ⊎ ((f : PlaceFault) × IsOffsetFault s o f)
offset_of (node label ts) o h = elim (cases_lt 1 o) [
  | inl past ↦ inr (BadPlace 1, (past, refl))
  | inr within ↦ inl within
]
offset_of (leaf text) o h = elim (cases_lt (length text) o) [
  | inl past ↦ inr (BadPlace (length text), (past, refl))
  | inr within ↦ elim (cases_Bool (is_cut text o)) [
    | inl cut ↦ inl (cut_test text o h cut)
    | inr none ↦ inr (CutsSymbol o, (within, (λ k. true≢false (sym (cut_tested text o k) ∙ none)), refl))
  ]
]

pub place_or_fault : (t : WideTree) (path : List ℕ) (o : ℕ) → IsWellFormed t
    → IsPlace t path o ⊎ ((f : PlaceFault) × IsPlaceFault t path o f)
place_or_fault t path o h = by_subtree (subtree t path) refl
  where
    by_subtree : (r : Option WideTree) → subtree t path ≡ r
        → IsSomeAnd r (λ s. IsOffset s o)
        ⊎ ((f : PlaceFault) × MatchOption r (f ≡ NoPath (leading t path)) (λ s. IsOffsetFault s o f))
    by_subtree None e = inr (NoPath (leading t path), refl)
    by_subtree (Some s) e = offset_of s o (well_formed_at path t s e h)

-- one number or more are a path and an offset
pub with_last : (n : ℕ) (ns : List ℕ) → (path : List ℕ) × (offset : ℕ) × (n ∷ ns ≡ path ++ offset ∷ [])
with_last n [] = ([], n, refl)
with_last n (m ∷ ns) = let rest = with_last m ns in (n ∷ rest.0, rest.1, ap (λ z. n ∷ z) rest.2)
