-- What units are charged.
use Rattle.std.specs.Prelude.{◌≡◌, ℕ, ◌+◌, Bool, not, ◌||◌, if◌then◌else◌, List, [], ◌∷◌, drop, Some}
use Rattle.std.specs.FinMap.{get}
use Rattle.std.specs.List.{AllByRecursion}
use Rattle.tx_exec_form.specs.declared.TheConstants.{MOST_LEVELS}
use Rattle.tx_exec_form.specs.Evaluated.{WideTrace}
use Rattle.tx_exec_form.specs.Laws.{Supports}
use Rattle.tx_parts.specs.Shells.{bare}
use Rattle.tx_parts.specs.Opening.{Sheller, no_shells}
use Rattle.tx_parts.specs.LayerCosts.{Holder, layer_costs_by}
use Rattle.tx_walk.specs.Guides.{Guide, charged}
use Rattle.tx_walk.specs.LayerTraces.{TreeTrace, holds_in, holds_either}
use Rattle.tx_walk.specs.Held.{Stores, only, charges}
use Rattle.tx_units.specs.declared.kinds.Unit.{Unit as DocUnit}
use Rattle.tx_view_form.specs.Outcomes.{Moment, allowance, charge, behind}
use Rattle.tx_bridge.specs.Entries.{Entry, Kept, outcome_of}
use Rattle.tx_bridge.specs.PartsKept.{KeptParts, kept_at, has_parts, unit_parts}
use Rattle.tx_bridge.specs.Reached.{can_be_used}
use Rattle.tx_bridge.specs.Spares.{UnitSpare, Spares, first_spare, stores_with}

-- ---- where trees have shells, and something is spare

-- what layers cost of a unit with parts, which is evaluated at this moment, where so much is held of their trees
abbrev pub layers_charge : Holder → Sheller → Moment → DocUnit → ℕ
layers_charge held sheller m u =
    if has_parts u then layer_costs_by held sheller MOST_LEVELS (allowance m) u.tagged.tree (get m.env) else 0

-- what guides a walk
abbrev pub guide_with : Sheller → Stores → Holder → Guide
guide_with sheller stores held = record { stores = stores; sheller = sheller; holder = held }

-- The charge of a unit with parts: the costs of its parts that neither the cache nor the spare holds, and those of
-- layers, where a tree that these hold costs nothing.
abbrev pub parts_charge_by : Sheller → Moment → DocUnit → KeptParts → KeptParts → List TreeTrace → List TreeTrace → ℕ
parts_charge_by sheller m u ps spare ls spare_ls =
    charged (guide_with sheller (stores_with ps spare) (holds_either ls spare_ls)) MOST_LEVELS (allowance m) []
    u.tagged.tree (get m.env)

-- what another one is charged where it is evaluated: its cost, or nothing where the spare can be used
abbrev pub whole_charge : Moment → DocUnit → UnitSpare → ℕ
whole_charge m u s = if can_be_used m s.trace then 0 else charge m (outcome_of m u)

abbrev pub unit_charge_by : Sheller → Moment → DocUnit → KeptParts → List TreeTrace → UnitSpare → ℕ
unit_charge_by sheller m u ps ls s =
    if has_parts u then parts_charge_by sheller m u ps s.parts ls s.layers else whole_charge m u s

-- A unit without parts isn't evaluated where what is cached of it can be used. One with parts is charged by its parts
-- and layers alone: nothing, where all are held and no layer is evaluated.
abbrev pub is_charged : Moment → Entry → Bool
is_charged m e = has_parts e.unit || not (can_be_used m e.trace)

abbrev pub charge_by : Sheller → Moment → Entry → KeptParts → List TreeTrace → UnitSpare → ℕ
charge_by sheller m e ps ls s = if is_charged m e then unit_charge_by sheller m e.unit ps ls s else 0

-- what is cached of the layers of the first unit, and nothing past the end of the list
abbrev pub first_layers : List (List TreeTrace) → List TreeTrace
first_layers [] = []
first_layers (ls ∷ lss) = ls

-- the charges of all units, the first at this moment and each other one after those before it
abbrev pub charges_by : Sheller → Moment → Kept → List KeptParts → List (List TreeTrace) → Spares → ℕ
charges_by sheller m [] pss lss ss = 0
charges_by sheller m (e ∷ es) [] lss ss = 0
charges_by sheller m (e ∷ es) (ps ∷ pss) lss ss =
    charge_by sheller m e ps (first_layers lss) (first_spare ss)
    + charges_by sheller (behind m (outcome_of m e.unit)) es pss (drop 1 lss) (drop 1 ss)

-- ---- what is known of layers

-- each trace is its tree's wherever its looks have the same values
abbrev pub AreLayersSound : List TreeTrace → Type 0
AreLayersSound ls = AllByRecursion (λ l. Supports l.trace (bare l.tree)) ls

-- a walk of the unit at this moment, for which these are cached, evaluates no tree of a layer
abbrev pub UnitLayersKnown : Sheller → Moment → DocUnit → List TreeTrace → Type 0
UnitLayersKnown sheller m u ls = (trace : WideTrace) → outcome_of m u ≡ Some trace
    → layers_charge (holds_in ls) sheller m u ≡ 0

-- no walk of a unit evaluates a tree of a layer, the first at this moment and each other one after those before it
abbrev pub AllLayersKnown : Sheller → Moment → List DocUnit → List (List TreeTrace) → Type 0
AllLayersKnown sheller m [] lss = Unit {0}
AllLayersKnown sheller m (u ∷ us) lss =
    UnitLayersKnown sheller m u (first_layers lss) × AllLayersKnown sheller (behind m (outcome_of m u)) us (drop 1 lss)

-- ---- where nothing has a shell

abbrev pub charge_with : Moment → Entry → KeptParts → UnitSpare → ℕ
charge_with m e ps s = charge_by no_shells m e ps [] s

abbrev pub charges_with : Moment → Kept → List KeptParts → Spares → ℕ
charges_with m es pss ss = charges_by no_shells m es pss [] ss

-- ---- and nothing is spare

abbrev pub unit_charge : Moment → DocUnit → KeptParts → ℕ
unit_charge m u ps =
    if has_parts u then charges (only (kept_at ps)) (unit_parts m u) else charge m (outcome_of m u)

abbrev pub charge_alone : Moment → Entry → KeptParts → ℕ
charge_alone m e ps = if is_charged m e then unit_charge m e.unit ps else 0

abbrev pub charges_from : Moment → Kept → List KeptParts → ℕ
charges_from m [] pss = 0
charges_from m (e ∷ es) [] = 0
charges_from m (e ∷ es) (ps ∷ pss) = charge_alone m e ps + charges_from (behind m (outcome_of m e.unit)) es pss
