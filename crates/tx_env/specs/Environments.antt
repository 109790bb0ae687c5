-- Environments: a finite map from names to trees, with the maps to which open scopes go back.
use Rattle.std.specs.Prelude.{ℕ, List, [], ◌∷◌, refl}
use Rattle.std.specs.Coded.{Coded, code_by, coded×, coded_ℕ, coded_list}
use Rattle.std.specs.Ordering.{nat_cmp}
use Rattle.std.specs.Cmp.Lexicographic.{slice_cmp}
use Rattle.std.specs.FinMap.{FinMap, insert, code}
use Rattle.tx_tree.specs.WideTree.{WideTree, coded_WideTree}

-- from the bytes of names to trees; a name that isn't there is unset
abbrev pub NameMap : Type 0
NameMap = FinMap (slice_cmp nat_cmp) WideTree

pub record Environment : Type 0 where
  pub map : NameMap
  -- the maps to which the open scopes go back, that of the first opened first
  pub scopes : List NameMap

-- the map with each of the pairs set, in order
abbrev pub overlaid : NameMap → List (List ℕ × WideTree) → NameMap
overlaid m [] = m
overlaid m (w ∷ ws) = overlaid (insert m w.0 w.1) ws

-- ---- the codes by which proofs tell them apart

abbrev pub coded_NameMap : Coded NameMap
coded_NameMap = code (coded_list coded_ℕ) coded_WideTree

abbrev pub coded_Environment : Coded Environment
coded_Environment =
    code_by (NameMap × List NameMap) (coded× coded_NameMap (coded_list coded_NameMap)) (λ e. (e.map, e.scopes))
    (λ p. record { map = p.0; scopes = p.1 }) (λ _. refl)

abbrev pub coded_Writes : Coded (List (List ℕ × WideTree))
coded_Writes = coded_list (coded× (coded_list coded_ℕ) coded_WideTree)
