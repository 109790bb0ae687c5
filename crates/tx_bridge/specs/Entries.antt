-- Units with what is cached of their evaluations.
use Rattle.std.specs.Prelude.{List, [], ◌∷◌, map, Option, None}
use Rattle.tx_origin.specs.TaggedTrees.{tagged_of}
use Rattle.tx_exec_form.specs.Evaluated.{WideTrace}
use Rattle.tx_units.specs.declared.kinds.Unit.{Unit as DocUnit}
use Rattle.tx_view_form.specs.Outcomes.{Moment, outcome, behind}

-- a unit and its cached trace, or None where nothing is cached
pub record Entry : Type 0 where
  pub unit : DocUnit
  pub trace : Option WideTrace

-- the units in order
abbrev pub Kept : Type 0
Kept = List Entry

abbrev pub units_of : Kept → List DocUnit
units_of es = map (λ e. e.unit) es

abbrev pub traces_of : Kept → List (Option WideTrace)
traces_of es = map (λ e. e.trace) es

abbrev pub nothing_kept : List DocUnit → Kept
nothing_kept us = map (λ u. record { unit = u; trace = None }) us

-- the trace of the unit at this moment, or None where it runs out of steps or levels
abbrev pub outcome_of : Moment → DocUnit → Option WideTrace
outcome_of m u = outcome (tagged_of u.tagged) m

-- each unit with its outcome, the first at this moment and each other one after those before it
abbrev pub fresh_from : Moment → List DocUnit → Kept
fresh_from m [] = []
fresh_from m (u ∷ us) =
    record { unit = u; trace = outcome_of m u } ∷ fresh_from (behind m (outcome_of m u)) us

-- the moment after all of these units, of which the first is evaluated at this moment
abbrev pub behind_all : Moment → List DocUnit → Moment
behind_all m [] = m
behind_all m (u ∷ us) = behind_all (behind m (outcome_of m u)) us
