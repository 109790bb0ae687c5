-- Values whose origins are under a path.
use Rattle.std.proofs.Common.{◌≡◌, ℕ, List, [], ◌∷◌, ◌++◌, map, refl, ap, sym, ◌∙◌}
use Rattle.std.proofs.lemmas.List.{append_assoc}
use Rattle.std.specs.Prelude.{Option, Some, None}
use Rattle.tx_tree.specs.WideTree.{WideTree, node, cons}
use Rattle.tx_origin.specs.Values.{WideValue, WideValues, text, made, none, also, vals, plain, plains, IsFrom}
use Rattle.tx_origin.specs.Under.{origin_under, value_under, values_under}

module _ (base : List ℕ) where
  mutual
    pub plain_under : (v : WideValue) → plain (value_under base v) ≡ plain v
    plain_under (text words at) = refl
    plain_under (made label parts at) = ap (node label) (plains_under parts)

    pub plains_under : (vs : WideValues) → plains (values_under base vs) ≡ plains vs
    plains_under none = refl
    plains_under (also v vs) =
        ap (λ t. cons t (plains (values_under base vs))) (plain_under v) ∙ ap (cons (plain v)) (plains_under vs)

  pub vals_under : (vs : List WideValue) → values_under base (vals vs) ≡ vals (map (value_under base) vs)
  vals_under [] = refl
  vals_under (v ∷ vs) = ap (also (value_under base v)) (vals_under vs)

  pub plains_moved : (vs : List WideValue) → plains (vals (map (value_under base) vs)) ≡ plains (vals vs)
  plains_moved vs = ap plains (sym (vals_under vs)) ∙ plains_under (vals vs)

  pub from_moved : (label : List ℕ) (vs : List WideValue) (from : Option WideTree) → IsFrom label vs from
      → IsFrom label (map (value_under base) vs) from
  from_moved label vs None h = h
  from_moved label vs (Some t) h = h ∙ ap (node label) (sym (plains_moved vs))

-- ---- under two paths, and under none

at_nested : (a b : List ℕ) (at : Option (List ℕ)) → origin_under (a ++ b) at ≡ origin_under a (origin_under b at)
at_nested a b None = refl
at_nested a b (Some p) = ap Some (append_assoc a b p)

mutual
  pub under_nested : (a b : List ℕ) (v : WideValue) → value_under (a ++ b) v ≡ value_under a (value_under b v)
  under_nested a b (text words at) = ap (text words) (at_nested a b at)
  under_nested a b (made label parts at) =
      ap (λ ps. made label ps (origin_under (a ++ b) at)) (all_nested a b parts)
      ∙ ap (made label (values_under a (values_under b parts))) (at_nested a b at)

  all_nested : (a b : List ℕ) (vs : WideValues) → values_under (a ++ b) vs ≡ values_under a (values_under b vs)
  all_nested a b none = refl
  all_nested a b (also v vs) =
      ap (λ u. also u (values_under (a ++ b) vs)) (under_nested a b v)
      ∙ ap (also (value_under a (value_under b v))) (all_nested a b vs)

at_none : (at : Option (List ℕ)) → origin_under [] at ≡ at
at_none None = refl
at_none (Some p) = refl

mutual
  pub under_none : (v : WideValue) → value_under [] v ≡ v
  under_none (text words at) = ap (text words) (at_none at)
  under_none (made label parts at) =
      ap (λ ps. made label ps (origin_under [] at)) (all_none parts) ∙ ap (made label parts) (at_none at)

  all_none : (vs : WideValues) → values_under [] vs ≡ vs
  all_none none = refl
  all_none (also v vs) = ap (λ u. also u (values_under [] vs)) (under_none v) ∙ ap (also v) (all_none vs)
