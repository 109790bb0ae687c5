-- What a tree evaluates to in a frame, and what trees evaluate to, in order.
use Rattle.std.specs.Prelude.{◌≡◌, ◌≤◌, ◌<◌, ◌⊎◌, ℕ, ◌-◌, List, [], Option, Some, None}
use Rattle.tx_env.specs.Environments.{NameMap}
use Rattle.tx_origin.specs.Values.{WideValue}
use Rattle.tx_origin.specs.TaggedTrees.{TaggedTree}
use Rattle.tx_exec_form.specs.Maps.{LookMap}
use Rattle.tx_exec_form.specs.Runs.{Before, State, Ran, Over, Done}
use Rattle.tx_exec_form.specs.Frames.{Frame}
use Rattle.tx_exec_form.specs.Rows.{ex, each}
use Rattle.tx_exec_form.specs.Evaluated.{WideTrace, start, traced}
use Rattle.tx_exec_form.specs.Laws.{Agrees}

-- The trace of the tree in the frame, with k levels and c steps, where names have this before. None where these run
-- out.
unfoldable pub framed : Frame → ℕ → ℕ → TaggedTree → Before → Option WideTrace
framed f k c t e = traced k c (ex k t f e (start k c))

-- In every environment that agrees with its looks this is the trace of the tree in the frame, wherever its cost and its
-- height are allowed.
abbrev pub SupportsFramed : Frame → WideTrace → TaggedTree → Type 0
SupportsFramed f trace t = (k c : ℕ) (e : Before) → Agrees e trace.looks → trace.cost ≤ c → trace.height ≤ k →
    framed f k c t e ≡ Some trace

-- Whatever trace the tree has in the frame where names have this, its cost passes c or its height passes k.
abbrev pub IsPastFramed : Frame → ℕ → ℕ → TaggedTree → Before → Type 0
IsPastFramed f k c t e = (trace : WideTrace) → SupportsFramed f trace t → Agrees e trace.looks →
    (c < trace.cost) ⊎ (k < trace.height)

-- ---- trees in order

-- their values in order, and the rest as in the trace of one tree
pub record RunTrace : Type 0 where
  pub values : List WideValue
  pub looks : LookMap
  pub writes : NameMap
  pub cost : ℕ
  pub height : ℕ

abbrev pub run_trace_of : ℕ → ℕ → List WideValue → State → RunTrace
run_trace_of k c vs s =
    record { values = vs; looks = s.looks; writes = s.own; cost = c - s.left; height = k - s.slack }

abbrev pub run_traced : ℕ → ℕ → Ran (List WideValue) → Option RunTrace
run_traced k c Over = None
run_traced k c (Done vs s) = Some (run_trace_of k c vs s)

-- The trace of the trees, in order in the frame, each with k levels and all with c steps. None where these run out.
unfoldable pub run_framed : Frame → ℕ → ℕ → List TaggedTree → Before → Option RunTrace
run_framed f k c ts e = run_traced k c (each (ex k) f [] ts e (start k c))

-- In every environment that agrees with its looks this is the trace of the trees in the frame, wherever its cost and
-- its height are allowed.
abbrev pub SupportsRun : Frame → RunTrace → List TaggedTree → Type 0
SupportsRun f trace ts = (k c : ℕ) (e : Before) → Agrees e trace.looks → trace.cost ≤ c → trace.height ≤ k →
    run_framed f k c ts e ≡ Some trace

abbrev pub IsPastRun : Frame → ℕ → ℕ → List TaggedTree → Before → Type 0
IsPastRun f k c ts e = (trace : RunTrace) → SupportsRun f trace ts → Agrees e trace.looks →
    (c < trace.cost) ⊎ (k < trace.height)
