-- What a tree evaluates to.
use Rattle.std.specs.Prelude.{ℕ, ◌-◌, Option, Some, None}
use Rattle.std.specs.FinMap.{empty}
use Rattle.tx_env.specs.Environments.{NameMap}
use Rattle.tx_origin.specs.Values.{WideValue}
use Rattle.tx_origin.specs.TaggedTrees.{TaggedTree}
use Rattle.tx_exec_form.specs.Maps.{LookMap}
use Rattle.tx_exec_form.specs.Runs.{Before, State, Ran, Over, Done}
use Rattle.tx_exec_form.specs.Frames.{top}
use Rattle.tx_exec_form.specs.Rows.{ex}
use Rattle.tx_exec_form.specs.declared.TheConstants.{MOST_LEVELS}

-- the value, what was looked up and not set before, what is set at the end, and the fewest steps and levels that
-- suffice
pub record WideTrace : Type 0 where
  pub value : WideValue
  pub looks : LookMap
  pub writes : NameMap
  pub cost : ℕ
  pub height : ℕ

-- k levels and c steps, with nothing set and nothing looked up yet
abbrev pub start : ℕ → ℕ → State
start k c = record { own = empty; looks = empty; left = c; slack = k }

abbrev pub trace_of : ℕ → ℕ → WideValue → State → WideTrace
trace_of k c v s = record { value = v; looks = s.looks; writes = s.own; cost = c - s.left; height = k - s.slack }

abbrev pub traced : ℕ → ℕ → Ran WideValue → Option WideTrace
traced k c Over = None
traced k c (Done v s) = Some (trace_of k c v s)

-- The trace of the tree without a frame, with k levels and c steps, where names have this before. None where levels or
-- steps run out.
unfoldable pub evaluated_in : ℕ → ℕ → TaggedTree → Before → Option WideTrace
evaluated_in k c t e = traced k c (ex k t top e (start k c))

-- with this many steps allowed
abbrev pub evaluated : TaggedTree → Before → ℕ → Option WideTrace
evaluated t e allowance = evaluated_in MOST_LEVELS allowance t e

-- the steps paid of the allowance
abbrev pub paid : ℕ → Option WideTrace → ℕ
paid allowance None = allowance
paid allowance (Some trace) = trace.cost
