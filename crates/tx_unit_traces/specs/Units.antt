-- Units in order, each with the trace that is cached of it.
use Rattle.std.specs.Prelude.{List, [], ◌∷◌, map, Option, None}
use Rattle.tx_origin.specs.TaggedTrees.{tagged_of}
use Rattle.tx_exec_form.specs.Evaluated.{WideTrace}
use Rattle.tx_units.specs.declared.kinds.Unit.{Unit as DocUnit}
use Rattle.tx_view_form.specs.Outcomes.{Moment, outcome, behind}
use Rattle.tx_unit_traces.specs.declared.cached_unit.CachedUnit.{CachedUnit}

abbrev pub units_of : List CachedUnit → List DocUnit
units_of us = map (λ u. u.unit) us

-- nothing is cached of these units
abbrev pub without_traces : List DocUnit → List CachedUnit
without_traces us = map (λ u. record { unit = u; trace = None }) us

-- the trace of the unit at this moment, or None where it runs out of steps or levels
abbrev pub outcome_of : Moment → DocUnit → Option WideTrace
outcome_of m u = outcome (tagged_of u.tagged) m

-- each unit with what it evaluates to: the first at this moment, and each other one after those before it
abbrev pub evaluated_from : Moment → List DocUnit → List CachedUnit
evaluated_from m [] = []
evaluated_from m (u ∷ us) =
    record { unit = u; trace = outcome_of m u } ∷ evaluated_from (behind m (outcome_of m u)) us

-- the moment after all of these units, of which the first is evaluated at this moment
abbrev pub after_all : Moment → List DocUnit → Moment
after_all m [] = m
after_all m (u ∷ us) = after_all (behind m (outcome_of m u)) us
