-- What holds of moved places and carried paths.
use Rattle.std.specs.Prelude.{◌≡◌, ℕ, List, [], ◌∷◌, ◌++◌, Option, Some, None, Ok, Err, option_and_then}
use Rattle.tx_tree.specs.declared.places.Place.{Place}
use Rattle.tx_tree.specs.Limits.{IsWellFormed}
use Rattle.tx_tree.specs.Paths.{subtree}
use Rattle.tx_tree.specs.Places.{IsPlace}
use Rattle.tx_tree.specs.WideTree.{WideTree}
use Rattle.tx_mod.specs.declared.mods.Mod.{Mod}
use Rattle.tx_mod.specs.Changes.{Outcome, changed}
use Rattle.tx_mod.specs.Moves.{moved_place, carried_path}
use Rattle.tx_mod.specs.Sound.{IsSoundMod}

-- a moved place is a place of the changed tree
abbrev pub StaysPlace : Mod → WideTree → Place → Type 0
StaysPlace m t at =
    (u : WideTree) → IsSoundMod m → IsWellFormed t → changed m t ≡ Ok u → IsPlace t at.path at.offset
    → IsPlace u (moved_place m t at).path (moved_place m t at).offset

-- the path to which a path is carried leads to the same subtree
abbrev pub CarriesSubtree : Mod → WideTree → List ℕ → Type 0
CarriesSubtree m t q = (u x : WideTree) (r : List ℕ) → changed m t ≡ Ok u → subtree t q ≡ Some x
    → carried_path m t q ≡ Some r → subtree u r ≡ Some x

-- the tree of an outcome
abbrev pub outcome_tree : Outcome → Option WideTree
outcome_tree (Ok u) = Some u
outcome_tree (Err cause) = None

-- the tree after all modifications, one after the other, if each makes one
abbrev pub changed_by_all : List Mod → WideTree → Option WideTree
changed_by_all [] t = Some t
changed_by_all (m ∷ ms) t = option_and_then (changed_by_all ms) (outcome_tree (changed m t))

-- where the subtree at q is after all modifications, one after the other
abbrev pub carried_by_all : List Mod → WideTree → List ℕ → Option (List ℕ)
carried_by_all [] t q = Some q
carried_by_all (m ∷ ms) t q =
    option_and_then (λ u. option_and_then (carried_by_all ms u) (carried_path m t q)) (outcome_tree (changed m t))

-- a path is carried through two lists as through the first and then through the second
abbrev pub Composes : List Mod → List Mod → WideTree → List ℕ → Type 0
Composes ms ns t q = carried_by_all (ms ++ ns) t q
    ≡ option_and_then (λ u. option_and_then (carried_by_all ns u) (carried_by_all ms t q)) (changed_by_all ms t)

-- where one step leads nowhere, all lead nowhere
abbrev pub PathStopsAt : List Mod → Mod → List Mod → WideTree → List ℕ → Type 0
PathStopsAt ms m ns t q =
    (u : WideTree) (r : List ℕ) → changed_by_all ms t ≡ Some u → carried_by_all ms t q ≡ Some r
    → carried_path m u r ≡ None → carried_by_all (ms ++ m ∷ ns) t q ≡ None

-- the path to which a path is carried through all modifications leads to the same subtree
abbrev pub CarriesThroughAll : List Mod → WideTree → List ℕ → Type 0
CarriesThroughAll ms t q = (u x : WideTree) (r : List ℕ) → changed_by_all ms t ≡ Some u → subtree t q ≡ Some x
    → carried_by_all ms t q ≡ Some r → subtree u r ≡ Some x
