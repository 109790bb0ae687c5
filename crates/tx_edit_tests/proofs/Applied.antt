-- A list of one modification that applies.
use Rattle.std.proofs.Common.{◌≡◌, List, [], ◌∷◌, Some, Ok, Err, refl, ap}
use Rattle.std.specs.Prelude.{IsOk, option_and_then}
use Rattle.tx_tree.specs.WideTree.{WideTree}
use Rattle.tx_mod.specs.declared.mods.Mod.{Mod}
use Rattle.tx_mod.specs.Changes.{Outcome, changed}
use Rattle.tx_mod.specs.Followed.{changed_by_all, outcome_tree}

pub one_applies : (m : Mod) (t : WideTree) → IsOk (changed m t)
    → (u : WideTree) × (changed_by_all (m ∷ []) t ≡ Some u)
one_applies m t h = by (changed m t) refl h
  where
    by : (o : Outcome) → changed m t ≡ o → IsOk o → (u : WideTree) × (changed_by_all (m ∷ []) t ≡ Some u)
    by (Ok u) is h = (u, ap (λ o. option_and_then (changed_by_all []) (outcome_tree o)) is)
    by (Err cause) is h = absurd (cc)
