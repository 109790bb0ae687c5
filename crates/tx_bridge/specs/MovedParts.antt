-- The parts of a unit that changes which aren't found to keep their places, as they are in it afterwards.
use Rattle.std.specs.Prelude.{◌≡◌, ℕ, ◌+◌, ◌==◌, if◌then◌else◌, List, [], ◌∷◌, map, Option, Some}
use Rattle.std.specs.Prelude.{option_map, IfSome}
use Rattle.std.specs.List.{All}
use Rattle.tx_tree.specs.WideTree.{WideTree}
use Rattle.tx_mod.specs.declared.mods.Mod.{Mod}
use Rattle.tx_units.specs.declared.kinds.Unit.{Unit as DocUnit}
use Rattle.tx_walk.specs.declared.part.Part.{Part as DonePart}
use Rattle.tx_walk.specs.Walked.{IsTidy}
use Rattle.tx_bridge.specs.CarryingParts.{carried_below, parts_within}
use Rattle.tx_bridge.specs.PartsKept.{KeptParts, part_paths}
use Rattle.tx_bridge.specs.Others.{stored_of, put_from}

-- where they are afterwards, by their numbers; nowhere for one that isn't in the unit any more
abbrev pub moves_of : List (ℕ × Option DonePart) → List (ℕ × Option (List ℕ))
moves_of os = map (λ o. (o.0, option_map (λ d. d.path) o.1)) os

-- Where parts with these paths, whose numbers begin with i, are afterwards: those of these numbers as the list says,
-- and each other one where it was. The numbers are in order.
abbrev pub places_by : ℕ → List (ℕ × Option (List ℕ)) → List (List ℕ) → List (Option (List ℕ))
places_by i ms [] = []
places_by i [] (q ∷ qs) = Some q ∷ places_by (i + 1) [] qs
places_by i (m ∷ ms) (q ∷ qs) =
    if m.0 == i then m.1 ∷ places_by (i + 1) ms qs else Some q ∷ places_by (i + 1) (m ∷ ms) qs

-- These are the parts of the unit that aren't found to keep their places, where this is cached of its parts.
pub record AreMovedParts (ms : List Mod) (t : WideTree) (u : DocUnit) (ks : KeptParts) (os : List (ℕ × Option DonePart))
    : Type 0 where
  pub kept : put_from 0 (stored_of os) ks ≡ parts_within ms t u ks
  pub places : (p : List ℕ) → u.path ≡ Some p
      → places_by 0 (moves_of os) (part_paths ks) ≡ map (carried_below ms t p) (part_paths ks)
  pub tidy : All (λ o. IfSome o.1 IsTidy) os
