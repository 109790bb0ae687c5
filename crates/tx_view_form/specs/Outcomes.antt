-- What units evaluate to from nothing, each after those before it.
use Rattle.std.specs.Prelude.{ℕ, ◌-◌, min, [], ◌∷◌, Option, Some, None, codes}
use Rattle.std.specs.FinMap.{get, empty, entries}
use Rattle.tx_env.specs.Environments.{NameMap, overlaid}
use Rattle.tx_origin.specs.Values.{WideValue, text, made, vals}
use Rattle.tx_origin.specs.TaggedTrees.{TaggedTree}
use Rattle.tx_exec_form.specs.Evaluated.{WideTrace, evaluated, paid}
use Rattle.tx_view_form.specs.declared.TheConstants.{MOST_UNIT_STEPS, MOST_VIEW_STEPS}

-- what names have before a unit, and the steps that are left for it and those after it
pub record Moment : Type 0 where
  pub env : NameMap
  pub left : ℕ

-- before the first unit no name is set
abbrev pub beginning : Moment
beginning = record { env = empty; left = MOST_VIEW_STEPS }

-- the steps that one unit may take
abbrev pub allowance : Moment → ℕ
allowance m = min MOST_UNIT_STEPS m.left

-- the trace of a unit's tree, or None where it runs out of steps or levels
unfoldable pub outcome : TaggedTree → Moment → Option WideTrace
outcome t m = evaluated t (get m.env) (allowance m)

-- what a unit takes of the steps: its cost, or all that it may take where it runs out
abbrev pub charge : Moment → Option WideTrace → ℕ
charge m o = paid (allowance m) o

-- the names that an evaluation set are set; one that runs out sets none
abbrev pub env_behind : NameMap → Option WideTrace → NameMap
env_behind env None = env
env_behind env (Some trace) = overlaid env (entries trace.writes)

abbrev pub behind : Moment → Option WideTrace → Moment
behind m o = record { env = env_behind m.env o; left = m.left - charge m o }

-- the value of a unit that runs out
abbrev pub over_value : WideValue
over_value = made (codes "error") (vals (text (codes "over") None ∷ text [] None ∷ [])) None

abbrev pub unit_value : Option WideTrace → WideValue
unit_value None = over_value
unit_value (Some trace) = trace.value
