-- What is cached of parts is carried with them through an edit.
use Rattle.std.specs.Prelude.{◌≡◌, ℕ, zero, suc, List, [], ◌∷◌, ◌++◌, map, Option, Some, None}
use Rattle.std.specs.Prelude.{option_and_then, option_map}
use Rattle.std.specs.Option.{option_map_or}
use Rattle.std.specs.List.{AllByRecursion}
use Rattle.tx_tree.specs.WideTree.{WideTree}
use Rattle.tx_mod.specs.declared.mods.Mod.{Mod}
use Rattle.tx_mod.specs.Followed.{changed_by_all, carried_by_all}
use Rattle.tx_mod.specs.Moves.{rest_behind}
use Rattle.tx_exec_form.specs.Evaluated.{WideTrace}
use Rattle.tx_units.specs.declared.kinds.Unit.{Unit as DocUnit}
use Rattle.tx_parts.specs.Parts.{Stored}
use Rattle.tx_bridge.specs.PartsKept.{KeptParts, kept_at}
use Rattle.tx_bridge.specs.Carrying.{Leads}

-- ---- in the one unit that changes

-- What is cached of a part of the unit at p, which is at this place in the document afterwards. Its path is from p on.
-- It is nothing where the part is no longer below p.
abbrev pub part_at : List ℕ → Option (List ℕ) → Stored → Option Stored
part_at p place k = option_map (λ r. record { path = r; trace = k.trace }) (option_and_then (rest_behind p) place)

abbrev pub and_part : Option Stored → KeptParts → KeptParts
and_part None ks = ks
and_part (Some k) ks = k ∷ ks

-- the parts that are still in the unit at p, where these are their places in the document afterwards
abbrev pub parts_with_places : List ℕ → List (Option (List ℕ)) → KeptParts → KeptParts
parts_with_places p [] ks = []
parts_with_places p (q ∷ qs) [] = []
parts_with_places p (q ∷ qs) (k ∷ ks) = and_part (part_at p q k) (parts_with_places p qs ks)

abbrev pub places_below : List Mod → WideTree → List ℕ → KeptParts → List (Option (List ℕ))
places_below ms t p ks = map (λ k. carried_by_all ms t (p ++ k.path)) ks

-- where the subtree at q in the unit at p is in the unit afterwards, and nothing where it is no longer below p
abbrev pub carried_below : List Mod → WideTree → List ℕ → List ℕ → Option (List ℕ)
carried_below ms t p q = option_and_then (rest_behind p) (carried_by_all ms t (p ++ q))

-- the parts of the unit at p that are still in it
abbrev pub parts_behind : List Mod → WideTree → List ℕ → KeptParts → KeptParts
parts_behind ms t p ks = parts_with_places p (places_below ms t p ks) ks

-- the parts of this unit that are still in it
abbrev pub parts_within : List Mod → WideTree → DocUnit → KeptParts → KeptParts
parts_within ms t u ks = option_map_or (λ p. parts_behind ms t p ks) u.path []

-- the parts of all units, where those of the unit of number i are carried, and those of the others are unchanged
abbrev pub parts_but : List Mod → WideTree → ℕ → List DocUnit → List KeptParts → List KeptParts
parts_but ms t i [] pss = []
parts_but ms t i (u ∷ us) [] = []
parts_but ms t zero (u ∷ us) (ks ∷ pss) = parts_within ms t u ks ∷ pss
parts_but ms t (suc i) (u ∷ us) (ks ∷ pss) = ks ∷ parts_but ms t i us pss

-- Where the modifications apply, and the cached parts of the unit at p are in the tree: what is cached at a path whose
-- place in the tree is carried to itself is cached at it afterwards.
abbrev pub StaysKept : List Mod → WideTree → List ℕ → KeptParts → Type 0
StaysKept ms t p ks = (u : WideTree) (q : List ℕ) (trace : WideTrace) → changed_by_all ms t ≡ Some u
    → AllByRecursion (λ k. Leads t (Some (p ++ k.path))) ks → carried_by_all ms t (p ++ q) ≡ Some (p ++ q)
    → kept_at ks q ≡ Some trace → kept_at (parts_behind ms t p ks) q ≡ Some trace
