-- How units and their parts are carried through an edit. Private clauses cite these.
use Rattle.std.specs.Prelude.{◌≡◌, ℕ, zero, suc, ◌+◌, true, ◌==◌, is_some, if◌then◌else◌, List, [], ◌∷◌, ◌++◌, map}
use Rattle.std.specs.Prelude.{Option, Some, None, slice_get, ◌<◌, ◌^◌, length}
use Rattle.std.specs.Option.{option_map_or}
use Rattle.std.specs.List.{filter_map}
use Rattle.tx_tree.specs.WideTree.{WideTree}
use Rattle.tx_tree.specs.Paths.{subtree}
use Rattle.tx_mod.specs.declared.mods.Mod.{Mod}
use Rattle.tx_mod.specs.Changes.{changed}
use Rattle.tx_mod.specs.Followed.{outcome_tree, changed_by_all}
use Rattle.tx_exec_form.specs.Laws.{Supports}
use Rattle.tx_exec.specs.Outcomes.{wide_trace}
use Rattle.tx_parts.specs.Composed.{alone}
use Rattle.tx_units.specs.declared.kinds.Unit.{Unit as DocUnit}
use Rattle.tx_walk.specs.declared.part.Part.{Part as DonePart}
use Rattle.tx_bridge.specs.declared.bridge.Bridge.{Bridge}
use Rattle.tx_bridge.specs.declared.course.PartMove.{PartMove}
use Rattle.tx_bridge.specs.Carrying.{through}
use Rattle.tx_bridge.specs.PartMoves.{rest_in}
use Rattle.tx_bridge.specs.Strays.{Stray, StandAside}
use Rattle.tx_bridge.specs.declared.strays.Stray.{Stray as DoneStray}
use Rattle.tx_bridge.specs.Slots.{IsInOrder, given_all, fresh_bridge, paths_in}

-- ---- trees between modifications

-- the tree before each modification, where t is that before the first one
abbrev pub trees_before : List Mod → WideTree → List WideTree
trees_before [] t = []
trees_before (m ∷ ms) t = t ∷ option_map_or (trees_before ms) (outcome_tree (changed m t)) []

-- the modifications apply to t, and these are the trees before each
pub record IsPassage (ms : List Mod) (t : WideTree) (ts : List WideTree) : Type 0 where
  pub last : WideTree
  pub made : changed_by_all ms t ≡ Some last
  pub trees : ts ≡ trees_before ms t

-- ---- in which unit a place is

-- the place is that of the unit of number j, or below it
pub record IsUnitAbove (place : List ℕ) (us : List DocUnit) (j : ℕ) : Type 0 where
  pub unit : DocUnit
  pub there : slice_get us j ≡ Some unit
  pub within : is_some (rest_in unit place) ≡ true

-- The path of a unit, if it has one, has so many numbers, and the last one is how far the unit is after number `first`.
pub record AreAligned (first depth : ℕ) (us : List DocUnit) : Type 0 where
  pub small : first < 2 ^ 63
  pub order : (k : ℕ) (u : DocUnit) → slice_get us k ≡ Some u → IsInOrder first k u
  pub depths : (k : ℕ) (u : DocUnit) (p : List ℕ) → slice_get us k ≡ Some u → u.path ≡ Some p → length p ≡ depth

-- ---- the tree at a part's place

-- the document may be this one after the edit of a buffer, which changes the buffer's tree t
abbrev pub MayFollow : ℕ → List Mod → WideTree → List Stray → WideTree → Type 0
MayFollow zero ms t strays = λ u. changed_by_all ms t ≡ Some u
MayFollow (suc buffer) ms t strays = λ u. StandAside u strays

-- The part's trace supports the tree. Where the part is in none of n units, the tree is at its path in each document
-- that may be the one after the edit.
pub record HasTree (IsAfter : WideTree → Type 0) (n : ℕ) (m : PartMove) : Type 0 where
  pub supports : Supports (wide_trace m.part.trace) (alone m.tree)
  pub stands : m.to ≡ n → (u : WideTree) → IsAfter u → subtree u m.part.path ≡ Some m.tree

-- the parts that are in none of n units
abbrev pub stray_left : ℕ → PartMove → Option DoneStray
stray_left n m = if m.to == n then Some (record { tree = m.tree; part = m.part }) else None

abbrev pub strays_left : List PartMove → ℕ → List DoneStray
strays_left ms n = filter_map (stray_left n) ms

-- ---- entries of new units

abbrev pub part_in_unit : ℕ → PartMove → Option DonePart
part_in_unit j m = if m.to == j then Some m.part else None

-- the parts that have moved to the unit of number j
abbrev pub arrived_parts : List PartMove → ℕ → List DonePart
arrived_parts ms j = filter_map (part_in_unit j) ms

abbrev pub joined_by : List DonePart → Bridge → Bridge
joined_by ps b = record {
  unit = b.unit;
  kept = b.kept;
  parts = b.parts ++ ps;
  layers = b.layers;
  shelled = b.shelled;
  reached = b.reached;
  source = b.source;
}

-- the entries, from number j on, with the parts that have moved to them
abbrev pub with_arrived : List PartMove → ℕ → List Bridge → List Bridge
with_arrived ms j [] = []
with_arrived ms j (b ∷ bs) = joined_by (arrived_parts ms j) b ∷ with_arrived ms (j + 1) bs

-- the new units, to which these parts have moved, after all old ones have given what is cached of them
abbrev pub given_with : List PartMove → List Mod → WideTree → List Bridge → List DocUnit → List Bridge
given_with moves ms t old us =
    given_all 0 (map (through ms t) (paths_in old)) old (with_arrived moves 0 (map fresh_bridge us))
