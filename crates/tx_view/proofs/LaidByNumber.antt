-- How the program carries the layout of parts, by the numbers of moves, and by the way that an edit takes.
use Rattle.std.specs.Prelude.{ℕ, ◌+◌, Bool, ◌==◌, is_some, if◌then◌else◌, List, [], ◌∷◌, ◌++◌, length, Option, None}
use Rattle.std.specs.Prelude.{option_and_then, slice_get}
use Rattle.std.specs.List.{filter, filter_map, list_all}
use Rattle.std.specs.Option.{option_map, option_map_or}
use Rattle.tx_tree.specs.WideTree.{WideTree}
use Rattle.tx_mod.specs.declared.mods.Mod.{Mod}
use Rattle.tx_units.specs.declared.kinds.Unit.{Unit as DocUnit}
use Rattle.tx_bridge.specs.Names.{PartMoves}
use Rattle.tx_bridge.specs.PartMoves.{Move}
use Rattle.tx_bridge.specs.PartsKept.{KeptParts}
use Rattle.tx_bridge.specs.Strays.{is_beside, path_at}
use Rattle.tx_unit_layout.specs.LaidAts.{LaidAt}
use Rattle.tx_view.specs.Exchanged.{exchanged, laid_to, left_but}

-- the layout of a part that has moved to another unit moves with it
abbrev pub moved_by_number : List (List LaidAt) → Move → Option LaidAt
moved_by_number lss m =
    option_map (laid_to m.kept.path)
    (option_and_then (λ ls. slice_get ls m.number) (slice_get lss m.from))

-- each of the parts is laid out
abbrev pub all_by_number : List (List LaidAt) → List Move → Bool
all_by_number lss moves = list_all (λ m. is_some (moved_by_number lss m)) moves

abbrev pub in_unit_by_number : List (List LaidAt) → ℕ → Move → Option LaidAt
in_unit_by_number lss j m = if m.to == j then moved_by_number lss m else None

-- the layout of the parts that have moved to the new unit j, if each that has moved is laid out
abbrev pub arrived_by_number : List (List LaidAt) → List Move → ℕ → List LaidAt
arrived_by_number lss moves j = if all_by_number lss moves then filter_map (in_unit_by_number lss j) moves else []

-- The layout of the parts of the new unit j: all of the old unit that it is, or that of the parts that have moved to
-- it.
abbrev pub now_by_number : List (List LaidAt) → List Move → ℕ → Option ℕ → List LaidAt
now_by_number lss moves j s =
    option_map_or (λ i. option_map_or (λ ls. ls) (slice_get lss i) []) s (arrived_by_number lss moves j)

-- the layout of the parts of each new unit, from number j on
abbrev pub all_now_by_number : List (List LaidAt) → List Move → ℕ → List (Option ℕ) → List (List LaidAt)
all_now_by_number lss moves j [] = []
all_now_by_number lss moves j (s ∷ ss) = now_by_number lss moves j s ∷ all_now_by_number lss moves (j + 1) ss

-- the layout of the parts of each unit, and last of those that are in none
abbrev pub laid_with : List (List LaidAt) → List LaidAt → List (List LaidAt)
laid_with lss ls = lss ++ ls ∷ []

-- What is left of the layout of the parts of the units us, where the new ones are vs, and are these old ones. Where one
-- paragraph is found to change alone, it is the layout of its parts that are still in it, and of all other units. Else
-- it is all of units that are unchanged, and of parts that move to other units, if each of these is laid out.
abbrev pub parts_by_way : ℕ → List Mod → WideTree → List DocUnit → List KeptParts → KeptParts → List (List LaidAt)
    → List LaidAt → List DocUnit → List (Option ℕ) → List (List LaidAt)
parts_by_way buffer ms t us pss strays lss ls vs ss =
    option_map_or (λ i. left_but ms t i us lss) (exchanged buffer ms t us)
    (all_now_by_number (laid_with lss ls) (PartMoves buffer ms t us pss strays vs) 0 ss)

-- what is left of the layout of parts that are in no unit, as of their cache
abbrev pub strays_by_way : ℕ → List Mod → WideTree → List DocUnit → List KeptParts → KeptParts → List (List LaidAt)
    → List LaidAt → List DocUnit → List LaidAt
strays_by_way buffer ms t us pss strays lss ls vs =
    option_map_or (λ i. filter (λ l. is_beside (path_at i us) l.path) ls) (exchanged buffer ms t us)
    (arrived_by_number (laid_with lss ls) (PartMoves buffer ms t us pss strays vs) (length vs))
