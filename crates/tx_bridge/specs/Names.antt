-- What crates above cite by name. No contract above opens these definitions, and few proofs do.
use Rattle.std.specs.Prelude.{◌≡◌, ℕ, Bool, List, [], length, map, Option}
use Rattle.std.specs.List.{All}
use Rattle.tx_tree.specs.WideTree.{WideTree}
use Rattle.tx_env.specs.Pairs.{Name}
use Rattle.tx_env.specs.Environments.{NameMap}
use Rattle.tx_mod.specs.declared.mods.Mod.{Mod}
use Rattle.tx_units.specs.declared.kinds.Unit.{Unit as DocUnit}
use Rattle.tx_view_form.specs.Outcomes.{beginning}
use Rattle.tx_parts.specs.Opening.{Sheller}
use Rattle.tx_walk.specs.LayerTraces.{TreeTrace}
use Rattle.tx_bridge.specs.Moments.{beginning_with}
use Rattle.tx_bridge.specs.Entries.{Kept, units_of, nothing_kept, fresh_from, behind_all}
use Rattle.tx_bridge.specs.PartsKept.{KeptParts, fresh_parts_from, part_flags_from}
use Rattle.tx_bridge.specs.PartsKept.{fresh_parts_by_from, part_flags_by_from}
use Rattle.tx_bridge.specs.Spares.{Spares}
use Rattle.tx_bridge.specs.Charges.{charges_from, charges_with, charges_by, AllLayersKnown}
use Rattle.tx_bridge.specs.Bound.{bounds_by}
use Rattle.tx_bridge.specs.declared.course.Course.{Course}
use Rattle.tx_bridge.specs.Carrying.{carried, sources, layers_now, mods_of, unit_places_after}
use Rattle.tx_bridge.specs.CarryingParts.{parts_but}
use Rattle.tx_bridge.specs.Courses.{MayFollow, HasTree}
use Rattle.tx_bridge.specs.PartMoves.{Move, AreMoves, arrived, part_moves, all_parts_now}
use Rattle.tx_bridge.specs.Strays.{Stray, kept_strays, strays_beside}

-- nothing is cached of these units
unfoldable pub EmptyTraces : List DocUnit → Kept
EmptyTraces us = nothing_kept us

-- nothing is cached of the parts of these units
unfoldable pub EmptyParts : List DocUnit → List KeptParts
EmptyParts us = map (λ u. []) us

-- what evaluating from nothing gives for these units
unfoldable pub FreshTraces : Kept → Kept
FreshTraces kept = fresh_from beginning (units_of kept)

-- what evaluating from nothing leaves of the parts of these units
unfoldable pub FreshParts : Kept → List KeptParts
FreshParts kept = fresh_parts_from beginning (units_of kept)

-- for each part of the units, whether nothing that fits is cached at its path
unfoldable pub PartFlags : Kept → List KeptParts → List (List Bool)
PartFlags kept parts = part_flags_from beginning kept parts

-- what names have after these units
unfoldable pub End : Kept → NameMap
End kept = (behind_all beginning (units_of kept)).env

-- the charges of all units
unfoldable pub Charge : Kept → List KeptParts → ℕ
Charge kept parts = charges_from beginning kept parts

-- ---- the same, where these names are set before the first unit

unfoldable pub FreshTracesFrom : List (Name × WideTree) → Kept → Kept
FreshTracesFrom start kept = fresh_from (beginning_with start) (units_of kept)

unfoldable pub FreshPartsFrom : List (Name × WideTree) → Kept → List KeptParts
FreshPartsFrom start kept = fresh_parts_from (beginning_with start) (units_of kept)

unfoldable pub PartFlagsFrom : List (Name × WideTree) → Kept → List KeptParts → List (List Bool)
PartFlagsFrom start kept parts = part_flags_from (beginning_with start) kept parts

unfoldable pub EndFrom : List (Name × WideTree) → Kept → NameMap
EndFrom start kept = (behind_all (beginning_with start) (units_of kept)).env

-- the charges, where so much is spare of the units
unfoldable pub ChargeFrom : List (Name × WideTree) → Kept → List KeptParts → Spares → ℕ
ChargeFrom start kept parts spares = charges_with (beginning_with start) kept parts spares

-- ---- the same, where trees have these shells

unfoldable pub FreshPartsBy : List (Name × WideTree) → Sheller → Kept → List KeptParts
FreshPartsBy start sheller kept = fresh_parts_by_from sheller (beginning_with start) (units_of kept)

unfoldable pub PartFlagsBy : List (Name × WideTree) → Sheller → Kept → List KeptParts → List (List Bool)
PartFlagsBy start sheller kept parts = part_flags_by_from sheller (beginning_with start) kept parts

-- the charges, with those of layers, where this is cached of their trees
unfoldable pub ChargeBy : List (Name × WideTree) → Sheller → Kept → List KeptParts → List (List TreeTrace) → Spares
    → ℕ
ChargeBy start sheller kept parts layers spares = charges_by sheller (beginning_with start) kept parts layers spares

-- the most that is charged, by the paragraphs that are touched and the parts that aren't held
unfoldable pub BoundBy : List (Name × WideTree) → Sheller → Kept → List KeptParts → List (List TreeTrace) → Spares → ℕ
BoundBy start sheller kept parts layers spares = bounds_by sheller (beginning_with start) kept parts layers spares

-- By what is cached of the layers of units, none of their trees is to be evaluated, but in a unit that runs out.
unfoldable pub KnowsLayers : List (Name × WideTree) → Sheller → Kept → List (List TreeTrace) → Type 0
KnowsLayers start sheller kept layers = AllLayersKnown sheller (beginning_with start) (units_of kept) layers

-- ---- through an edit

-- the cached traces that are carried through the modifications of a buffer, which change its tree t
unfoldable pub CarryTraces : ℕ → List Mod → WideTree → Kept → List DocUnit → Kept
CarryTraces buffer ms t kept us = carried (mods_of buffer ms) t kept us

-- The parts of old units that are none of the new ones, and the strays, with the new units in which they are after the
-- modifications of a buffer, which change its tree t. The old units are us, this is cached of their parts and of the
-- strays, and the new units are vs. Strays count as parts of the unit after the last one, both before the edit and
-- after it.
unfoldable pub PartMoves : ℕ → List Mod → WideTree → List DocUnit → List KeptParts → KeptParts → List DocUnit
    → List Move
PartMoves buffer ms t us parts strays vs = part_moves buffer ms t us parts strays vs

-- what is cached of strays, where there are n new units, and parts have so moved
unfoldable pub CarryStrays : List Move → ℕ → KeptParts
CarryStrays moves n = arrived moves n

-- what is then cached of the parts of units, where the new units are these old ones, and parts have so moved
unfoldable pub CarryParts : List KeptParts → List Move → List (Option ℕ) → List KeptParts
CarryParts parts moves sources = all_parts_now parts moves 0 sources

-- what is then cached of the parts, where all modifications of the document are inside the unit of number i
unfoldable pub CarryWithin : ℕ → List Mod → WideTree → List DocUnit → List KeptParts → List KeptParts
CarryWithin i ms t us parts = parts_but ms t i us parts

-- what is then cached of the layers of units, where the new units are these old ones
unfoldable pub CarryLayers : List (List TreeTrace) → List (Option ℕ) → List (List TreeTrace)
CarryLayers layers sources = map (layers_now layers) sources

-- the strays that are left where all modifications of the document are inside the unit of number i
unfoldable pub StraysBeside : ℕ → List DocUnit → List Stray → List Stray
StraysBeside i us strays = strays_beside i us strays

-- for each unit afterwards, the number of the old unit that it is, or none
unfoldable pub Sources : ℕ → List Mod → WideTree → List DocUnit → List DocUnit → List (Option ℕ)
Sources buffer ms t us vs = sources (mods_of buffer ms) t us vs

-- Where the old units us are afterwards, and which of their parts, and of the strays, have moved to the new units vs,
-- or are in none of them. This is cached of the parts and of the strays.
pub record IsCourse (buffer : ℕ) (ms : List Mod) (t : WideTree) (us : List DocUnit) (parts : List KeptParts)
    (strays : List Stray) (vs : List DocUnit) (c : Course) : Type 0 where
  pub places : c.places.items ≡ unit_places_after (mods_of buffer ms) t us
  pub moves : AreMoves (PartMoves buffer ms t us parts (kept_strays strays) vs) c.moves.items
  pub trees : All (HasTree (MayFollow buffer ms t strays) (length vs)) c.moves.items
