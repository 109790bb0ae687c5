-- Parts of old units that are no new ones, and strays: in which new unit each one is after an edit, or in none.
use Rattle.std.specs.Prelude.{◌≡◌, ℕ, zero, suc, ◌+◌, Bool, false, not, ◌==◌, is_some, if◌then◌else◌, List, [], ◌∷◌}
use Rattle.std.specs.Prelude.{◌++◌, length, map, Option, Some, None, option_and_then, slice_get}
use Rattle.std.specs.Option.{option_map, option_map_or}
use Rattle.std.specs.List.{All, cons_option, filter_map, list_any}
use Rattle.tx_tree.specs.WideTree.{WideTree}
use Rattle.tx_mod.specs.declared.mods.Mod.{Mod}
use Rattle.tx_mod.specs.Followed.{carried_by_all}
use Rattle.tx_mod.specs.Moves.{rest_behind}
use Rattle.tx_units.specs.declared.kinds.Unit.{Unit as DocUnit}
use Rattle.tx_parts.specs.Parts.{Stored}
use Rattle.tx_walk.specs.Walked.{IsTidy}
use Rattle.tx_bridge.specs.declared.course.PartMove.{PartMove}
use Rattle.tx_bridge.specs.HeldParts.{kept_part}
use Rattle.tx_bridge.specs.Carrying.{through, is_path}
use Rattle.tx_bridge.specs.PartsKept.{KeptParts}

-- The part of this number of the old unit `from` is in the new unit `to` now, and this is cached of it. Strays have the
-- number after the last unit's, and their paths in the document.
pub record Move : Type 0 where
  pub from : ℕ
  pub number : ℕ
  pub to : ℕ
  pub kept : Stored

-- ---- in which unit a place is

-- the place is the unit's
abbrev pub stands_at : Option (List ℕ) → DocUnit → Bool
stands_at place v = option_map_or (λ p. is_path p place) v.path false

-- no unit is at the place
abbrev pub is_vacant : Option (List ℕ) → List DocUnit → Bool
is_vacant place vs = not (list_any (stands_at place) vs)

-- the path from the unit's to the place, if it is the unit's or below it
abbrev pub rest_in : DocUnit → List ℕ → Option (List ℕ)
rest_in v place = option_and_then (λ p. rest_behind p place) v.path

-- no unit is at the place or above it
abbrev pub NoneAbove : List ℕ → List DocUnit → Type 0
NoneAbove place us = (k : ℕ) (u : DocUnit) → slice_get us k ≡ Some u → rest_in u place ≡ None

-- whether it is so
abbrev pub is_outside : List DocUnit → List ℕ → Bool
is_outside us place = not (list_any (λ u. is_some (rest_in u place)) us)

-- The number of the first unit at the place or above it, where these are counted from j on, and the rest of the place.
-- For a place outside of all units it is the number after the last one, and the whole place.
abbrev pub unit_above : ℕ → List DocUnit → List ℕ → ℕ × List ℕ
unit_above j [] place = (j, place)
unit_above j (v ∷ vs) place = option_map_or (λ r. (j, r)) (rest_in v place) (unit_above (j + 1) vs place)

-- ---- all moves

abbrev pub move_to : ℕ → ℕ → Stored → ℕ × List ℕ → Move
move_to i k s x = record { from = i; number = k; to = x.0; kept = record { path = x.1; trace = s.trace } }

-- the move of the part of number k of the old unit i, which was at q, if it is anywhere afterwards
abbrev pub move_from : List Mod → WideTree → List DocUnit → ℕ → ℕ → List ℕ → Stored → Option Move
move_from ms t vs i k q s = option_map (λ place. move_to i k s (unit_above 0 vs place)) (carried_by_all ms t q)

-- the move of a part of the old unit i, which was at p
abbrev pub move_of : List Mod → WideTree → List DocUnit → ℕ → List ℕ → ℕ → Stored → Option Move
move_of ms t vs i p k s = move_from ms t vs i k (p ++ s.path) s

-- the moves of these parts of the old unit i, from number k on
abbrev pub moves_below : List Mod → WideTree → List DocUnit → ℕ → List ℕ → ℕ → KeptParts → List Move
moves_below ms t vs i p k [] = []
moves_below ms t vs i p k (s ∷ ks) = cons_option (move_of ms t vs i p k s) (moves_below ms t vs i p (k + 1) ks)

-- the moves of the parts of the old unit i, if no new one is where it is
abbrev pub unit_moves : List Mod → WideTree → List DocUnit → ℕ → DocUnit → KeptParts → List Move
unit_moves ms t vs i u ks =
    if is_vacant (through ms t u.path) vs then option_map_or (λ p. moves_below ms t vs i p 0 ks) u.path [] else []

-- the moves of the parts of each old unit, from number i on
abbrev pub moves_from : List Mod → WideTree → List DocUnit → ℕ → List DocUnit → List KeptParts → List Move
moves_from ms t vs i [] pss = []
moves_from ms t vs i (u ∷ us) [] = []
moves_from ms t vs i (u ∷ us) (ks ∷ pss) = unit_moves ms t vs i u ks ++ moves_from ms t vs (i + 1) us pss

-- the move of the stray of number k, whose place is unchanged, if it is in no new unit; it counts as a part of unit i
abbrev pub move_aside : List DocUnit → ℕ → ℕ → Stored → Option Move
move_aside vs i k s = if is_outside vs s.path then Some (move_to i k s (length vs, s.path)) else None

-- the moves of all strays, from number k on
abbrev pub moves_aside : List DocUnit → ℕ → ℕ → KeptParts → List Move
moves_aside vs i k [] = []
moves_aside vs i k (s ∷ ks) = cons_option (move_aside vs i k s) (moves_aside vs i (k + 1) ks)

-- The moves of all parts of the old units us, and of strays, where vs are the new units, and the modifications of a
-- buffer change its tree t. Those of another buffer than the document move no part of a unit. They leave strays
-- unchanged, but one that would be in a new unit is dropped. There is none such where the units of the body are those
-- before.
abbrev pub part_moves : ℕ → List Mod → WideTree → List DocUnit → List KeptParts → KeptParts → List DocUnit → List Move
part_moves zero ms t us pss ks vs = moves_from ms t vs 0 us pss ++ moves_below ms t vs (length us) [] 0 ks
part_moves (suc buffer) ms t us pss ks vs = moves_aside vs (length us) 0 ks

-- ---- the moves that the program returns

abbrev pub seen_move : PartMove → Move
seen_move m = record { from = m.from; number = m.number; to = m.to; kept = kept_part m.part }

-- it returns these, with the cached parts
pub record AreMoves (moves : List Move) (ms : List PartMove) : Type 0 where
  pub all : map seen_move ms ≡ moves
  pub tidy : All (λ m. IsTidy m.part) ms

-- ---- what new units have of parts

abbrev pub kept_in_unit : ℕ → Move → Option Stored
kept_in_unit j m = if m.to == j then Some m.kept else None

-- what is cached of the parts that have moved to the new unit j, or of the strays, where j is the number after the last
abbrev pub arrived : List Move → ℕ → KeptParts
arrived moves j = filter_map (kept_in_unit j) moves

-- what the new unit j has: all that is cached of the parts of the old one that it is, or of those that have moved to it
abbrev pub parts_now : List KeptParts → List Move → ℕ → Option ℕ → KeptParts
parts_now pss moves j s =
    option_map_or (λ i. option_map_or (λ ks. ks) (slice_get pss i) []) s (arrived moves j)

-- what each new unit has, from number j on
abbrev pub all_parts_now : List KeptParts → List Move → ℕ → List (Option ℕ) → List KeptParts
all_parts_now pss moves j [] = []
all_parts_now pss moves j (s ∷ ss) = parts_now pss moves j s ∷ all_parts_now pss moves (j + 1) ss
