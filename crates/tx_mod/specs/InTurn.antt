-- Lists of modifications, applied in turn.
use Rattle.std.specs.Prelude.{◌≡◌, ℕ, ◌+◌, List, [], ◌∷◌, ◌++◌, length, Ok, Err}
use Rattle.std.specs.List.{AllByRecursion}
use Rattle.std.specs.Option.{option_map_or}
use Rattle.tx_tree.specs.declared.places.Place.{Place}
use Rattle.tx_tree.specs.Limits.{IsWellFormed, IsWithinLimits}
use Rattle.tx_tree.specs.WideTree.{WideTree}
use Rattle.tx_mod.specs.declared.mods.Mod.{Mod}
use Rattle.tx_mod.specs.Changes.{Outcome, changed}
use Rattle.tx_mod.specs.Followed.{outcome_tree}
use Rattle.tx_mod.specs.Inverses.{inverse_of}
use Rattle.tx_mod.specs.Mods.{path_of}
use Rattle.tx_mod.specs.Moves.{moved_place}
use Rattle.tx_mod.specs.Sound.{IsSoundMod}

-- the next step from the tree of an outcome, or the cause of the outcome
abbrev pub then_changed : (WideTree → Outcome) → Outcome → Outcome
then_changed next (Ok u) = next u
then_changed next (Err cause) = Err cause

-- the tree after all modifications, or the first cause why there is none
abbrev pub changed_in_turn : List Mod → WideTree → Outcome
changed_in_turn [] t = Ok t
changed_in_turn (m ∷ ms) t = then_changed (changed_in_turn ms) (changed m t)

-- what gives the tree back: the inverse of each modification in the tree that it changes, the last one first
abbrev pub inverses_of : List Mod → WideTree → List Mod
inverses_of [] t = []
inverses_of (m ∷ ms) t = option_map_or (inverses_of ms) (outcome_tree (changed m t)) [] ++ inverse_of m t ∷ []

-- where a place of the tree t is after all modifications
abbrev pub moved_in_turn : List Mod → WideTree → Place → Place
moved_in_turn [] t at = at
moved_in_turn (m ∷ ms) t at =
    option_map_or (λ u. moved_in_turn ms u (moved_place m t at)) (outcome_tree (changed m t)) (moved_place m t at)

-- the steps that are allowed for one change along all paths
abbrev pub cost_of : List Mod → ℕ
cost_of [] = 0
cost_of (m ∷ ms) = length (path_of m) + 3 + cost_of ms

abbrev pub AreSoundMods : List Mod → Type 0
AreSoundMods = AllByRecursion IsSoundMod

-- What is known of modifications that are sound and apply to a well formed tree. The tree afterwards is well formed.
-- What undoes them gives the tree back and is allowed as many steps. What undoes the undoing is the modifications
-- themselves.
pub record AreUndone (ms : List Mod) (t u : WideTree) : Type 0 where
  pub formed : IsWellFormed u
  pub within : IsWithinLimits u
  pub back : changed_in_turn (inverses_of ms t) u ≡ Ok t
  pub again : inverses_of (inverses_of ms t) u ≡ ms
  pub cost : cost_of (inverses_of ms t) ≡ cost_of ms

abbrev pub CanBeUndone : List Mod → WideTree → Type 0
CanBeUndone ms t =
    (u : WideTree) → AreSoundMods ms → IsWellFormed t → IsWithinLimits t → changed_in_turn ms t ≡ Ok u
    → AreUndone ms t u
