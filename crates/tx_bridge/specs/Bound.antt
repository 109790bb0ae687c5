-- The most that a refresh is charged, by the paragraphs that are touched and the parts that aren't held.
use Rattle.std.specs.Prelude.{ℕ, ◌+◌, Bool, not, ◌||◌, if◌then◌else◌, List, [], ◌∷◌, drop, Option, Some, None}
use Rattle.std.specs.List.{list_all}
use Rattle.tx_exec_form.specs.Evaluated.{WideTrace}
use Rattle.tx_parts.specs.Opening.{Sheller}
use Rattle.tx_parts.specs.LayerCosts.{holds_nothing}
use Rattle.tx_walk.specs.LayerTraces.{TreeTrace, holds_either}
use Rattle.tx_walk.specs.Held.{is_part_held, charges}
use Rattle.tx_units.specs.declared.kinds.Unit.{Unit as DocUnit}
use Rattle.tx_view_form.specs.Outcomes.{Moment, allowance, charge, behind}
use Rattle.tx_bridge.specs.Entries.{Entry, Kept, outcome_of}
use Rattle.tx_bridge.specs.PartsKept.{KeptParts, has_parts, unit_parts_by}
use Rattle.tx_bridge.specs.Reached.{can_be_used}
use Rattle.tx_bridge.specs.Spares.{UnitSpare, Spares, first_spare, stores_with}
use Rattle.tx_bridge.specs.Charges.{layers_charge, first_layers}

-- neither the unit's trace can be used at the moment nor the spare's
abbrev pub is_unused : Moment → Entry → UnitSpare → Bool
is_unused m e s = not (can_be_used m e.trace || can_be_used m s.trace)

-- each part of the unit is held, by what is cached of it or by the spare
abbrev pub are_parts_held : Sheller → Moment → DocUnit → KeptParts → UnitSpare → Bool
are_parts_held sheller m u ps s = list_all (is_part_held (stores_with ps s.parts)) (unit_parts_by sheller m u)

-- a paragraph is touched where no trace of it can be used, or one of its parts isn't held
abbrev pub is_touched : Sheller → Moment → Entry → KeptParts → UnitSpare → Bool
is_touched sheller m e ps s = is_unused m e s || not (are_parts_held sheller m e.unit ps s)

-- the costs of the parts that aren't held, and of all trees of layers
abbrev pub touched_bound : Sheller → Moment → DocUnit → KeptParts → UnitSpare → ℕ
touched_bound sheller m u ps s =
    charges (stores_with ps s.parts) (unit_parts_by sheller m u) + layers_charge holds_nothing sheller m u

-- what is left to evaluate of layers: the costs of the trees that aren't held
abbrev pub layers_left : Sheller → Moment → DocUnit → List TreeTrace → UnitSpare → ℕ
layers_left sheller m u ls s = layers_charge (holds_either ls s.layers) sheller m u

-- The bound of a unit with this outcome. Where it runs out of steps or levels, it is all that the unit may take. A
-- paragraph that is touched counts with its parts that aren't held and all its layers. One that isn't touched counts
-- with what is left of its layers. That is nothing where the trace that can be used came with the layers that are held
-- (`staying_law`, `spare_law`). Another unit counts with its cost, where nothing of it can be used.
abbrev pub bound_at : Sheller → Moment → Entry → KeptParts → List TreeTrace → UnitSpare → Option WideTrace → ℕ
bound_at sheller m e ps ls s None = allowance m
bound_at sheller m e ps ls s (Some trace) =
    if has_parts e.unit
    then if is_touched sheller m e ps s then touched_bound sheller m e.unit ps s else layers_left sheller m e.unit ls s
    else if is_unused m e s then charge m (Some trace) else 0

abbrev pub unit_bound : Sheller → Moment → Entry → KeptParts → List TreeTrace → UnitSpare → ℕ
unit_bound sheller m e ps ls s = bound_at sheller m e ps ls s (outcome_of m e.unit)

-- the bounds of all units, the first at this moment and each other one after those before it
abbrev pub bounds_by : Sheller → Moment → Kept → List KeptParts → List (List TreeTrace) → Spares → ℕ
bounds_by sheller m [] pss lss ss = 0
bounds_by sheller m (e ∷ es) [] lss ss = 0
bounds_by sheller m (e ∷ es) (ps ∷ pss) lss ss =
    unit_bound sheller m e ps (first_layers lss) (first_spare ss)
    + bounds_by sheller (behind m (outcome_of m e.unit)) es pss (drop 1 lss) (drop 1 ss)
