-- Which units are reached. Some parts of a paragraph that is reached may be held all the same.
use Rattle.std.specs.Prelude.{nat_le, Bool, true, false, not, ◌&&◌, ◌||◌, List, [], ◌∷◌, drop, Option, Some, None}
use Rattle.std.specs.FinMap.{get}
use Rattle.std.specs.Str.{bytes_eq}
use Rattle.tx_exec_form.specs.Evaluated.{WideTrace}
use Rattle.tx_view_form.specs.Outcomes.{Moment, allowance, behind}
use Rattle.tx_parts.specs.Opening.{Sheller, no_shells}
use Rattle.tx_parts.specs.Parts.{Part, Stored}
use Rattle.tx_walk.specs.Held.{agrees, fits as part_fits}
use Rattle.tx_bridge.specs.Entries.{Entry, Kept, outcome_of}
use Rattle.tx_bridge.specs.PartsKept.{KeptParts, has_parts, unit_parts_by}

-- what is cached can be used at the moment: the environment agrees with the looks, and the cost is allowed
abbrev pub can_be_used : Moment → Option WideTrace → Bool
can_be_used m None = false
can_be_used m (Some trace) = agrees (get m.env) trace.looks && nat_le trace.cost (allowance m)

-- this part is cached, and what is cached of it fits what names have before it
abbrev pub is_kept : Stored → Part → Bool
is_kept k p = bytes_eq k.path p.path && part_fits p.before k.trace

-- just these parts are cached, in order, and what is cached of each fits
abbrev pub are_kept : KeptParts → List Part → Bool
are_kept [] [] = true
are_kept [] (p ∷ ps) = false
are_kept (k ∷ ks) [] = false
are_kept (k ∷ ks) (p ∷ ps) = is_kept k p && are_kept ks ps

-- Where trees have these shells, a unit isn't reached: what is cached of it can be used, and if it has parts, these are
-- cached. The parts may have been other ones where other trees had shells.
abbrev pub unit_stays_by : Sheller → Moment → Entry → KeptParts → Bool
unit_stays_by sheller m e ks =
    can_be_used m e.trace && (not (has_parts e.unit) || are_kept ks (unit_parts_by sheller m e.unit))

-- what is cached of the parts of the first unit, and nothing past the end of the list
abbrev pub first_parts : List KeptParts → KeptParts
first_parts [] = []
first_parts (ks ∷ pss) = ks

-- whether each unit is reached, the first at this moment and each other one after those before it
abbrev pub reached_by_from : Sheller → Moment → Kept → List KeptParts → List Bool
reached_by_from sheller m [] pss = []
reached_by_from sheller m (e ∷ es) pss =
    not (unit_stays_by sheller m e (first_parts pss))
    ∷ reached_by_from sheller (behind m (outcome_of m e.unit)) es (drop 1 pss)

-- where nothing has a shell
abbrev pub unit_stays : Moment → Entry → KeptParts → Bool
unit_stays m e ks = unit_stays_by no_shells m e ks

abbrev pub reached_from : Moment → Kept → List KeptParts → List Bool
reached_from m es pss = reached_by_from no_shells m es pss
