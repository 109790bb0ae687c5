-- How many items a refresh lays out anew.
use Rattle.std.specs.Prelude.{ℕ, ◌+◌, Bool, not, ◌||◌, if◌then◌else◌, List, [], ◌∷◌, Option}
use Rattle.tx_units.specs.declared.kinds.Unit.{Unit as DocUnit}
use Rattle.tx_items.specs.declared.attributes.Attrs.{Attrs}
use Rattle.tx_view_form.specs.Outcomes.{Moment, behind}
use Rattle.tx_view_form.specs.Started.{attributes_of}
use Rattle.tx_bridge.specs.Entries.{Entry, Kept, outcome_of}
use Rattle.tx_bridge.specs.PartsKept.{KeptParts, fresh_parts, part_flags}
use Rattle.tx_bridge.specs.Reached.{unit_stays}
use Rattle.tx_part_layout.specs.LaidParts.{is_before}
use Rattle.tx_unit_layout.specs.LaidAts.{LaidAt, unit_items_anew}

-- the unit with what it evaluates to at this moment
abbrev pub entry_at : Moment → DocUnit → Entry
entry_at m u = record { unit = u; trace = outcome_of m u }

-- how many items are laid out anew of a unit that is evaluated at this moment, where these are the flags of its parts,
-- and of these they were laid out before
abbrev pub items_at : Moment → DocUnit → List Bool → List LaidAt → ℕ
items_at m u fs ls = unit_items_anew (attributes_of m.env) (entry_at m u) (fresh_parts m u) fs ls

-- a unit is laid out anew where its trace isn't used again, or where it was laid out for other attributes or not at all
abbrev pub is_relaid : Moment → Entry → KeptParts → Option Attrs → Bool
is_relaid m e ks laid = not (unit_stays m e ks) || not (is_before laid (attributes_of m.env))

-- the items that are laid out anew of the unit of which this was laid out
abbrev pub items_relaid : Moment → Entry → KeptParts → Option Attrs → List LaidAt → ℕ
items_relaid m e ks laid ls = if is_relaid m e ks laid then items_at m e.unit (part_flags m e.unit ks) ls else 0

-- the items that are laid out anew of all units, from a moment on
abbrev pub items_relaid_from : Moment → Kept → List KeptParts → List (Option Attrs) → List (List LaidAt) → ℕ
items_relaid_from m [] pss laid lss = 0
items_relaid_from m (e ∷ es) [] laid lss = 0
items_relaid_from m (e ∷ es) (ks ∷ pss) [] lss = 0
items_relaid_from m (e ∷ es) (ks ∷ pss) (a ∷ laid) [] = 0
items_relaid_from m (e ∷ es) (ks ∷ pss) (a ∷ laid) (ls ∷ lss) =
    items_relaid m e ks a ls + items_relaid_from (behind m (outcome_of m e.unit)) es pss laid lss
