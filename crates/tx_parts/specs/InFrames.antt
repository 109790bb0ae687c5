-- Parts in a frame of macro arguments, and how traces in order are joined.
use Rattle.std.specs.Prelude.{ℕ, ◌+◌, ◌-◌, min, max, List, ◌∷◌, map, Option, Some, None, option_and_then}
use Rattle.std.specs.Option.{option_map}
use Rattle.tx_origin.specs.Values.{WideValue}
use Rattle.tx_origin.specs.TaggedTrees.{TaggedTree}
use Rattle.tx_origin.specs.Under.{tree_under, value_under}
use Rattle.tx_exec_form.specs.Runs.{Before, State, Ran, Over, Done}
use Rattle.tx_exec_form.specs.Frames.{Frame, top, call, call_all}
use Rattle.tx_exec_form.specs.Evaluated.{WideTrace}
use Rattle.tx_exec_form.specs.Framed.{RunTrace, framed, run_framed}
use Rattle.tx_parts.specs.Atop.{atop, env_atop, both_looks}
use Rattle.tx_parts.specs.Adding.{after_part}

-- the frame with the origins of all arguments under a path
abbrev pub frame_under : List ℕ → Frame → Frame
frame_under base top = top
frame_under base (call parameters arguments caller) =
    call parameters (map (tree_under base) arguments) (frame_under base caller)
frame_under base (call_all parameter arguments caller) =
    call_all parameter (map (tree_under base) arguments) (frame_under base caller)

-- What a tree with this trace does at a state of the whole, where its origins are those of the whole already.
abbrev pub ran_here : ℕ → State → Option WideTrace → Ran WideValue
ran_here k s None = Over
ran_here k s (Some trace) = Done trace.value (after_part k s trace)

-- The state of the whole after trees in order, as after one part.
abbrev pub after_run : ℕ → State → RunTrace → State
after_run k s trace = record {
  own = atop trace.writes s.own;
  looks = both_looks s.looks s.own trace.looks;
  left = s.left - trace.cost;
  slack = min s.slack (k - trace.height);
}

-- The origins of the values are under the path.
abbrev pub run_ran : ℕ → List ℕ → State → Option RunTrace → Ran (List WideValue)
run_ran k path s None = Over
run_ran k path s (Some trace) = Done (map (value_under path) trace.values) (after_run k s trace)

-- the trace of one tree, and then that of others
abbrev pub joined : WideTrace → RunTrace → RunTrace
joined a b = record {
  values = a.value ∷ b.values;
  looks = both_looks a.looks a.writes b.looks;
  writes = atop b.writes a.writes;
  cost = a.cost + b.cost;
  height = max a.height b.height;
}

-- The first tree alone, and then the others alone, with the steps that it leaves, where names have what it has set.
abbrev pub run_joined : Frame → ℕ → ℕ → TaggedTree → List TaggedTree → Before → Option RunTrace
run_joined f k c t ts e =
    option_and_then (λ a. option_map (joined a) (run_framed f k (c - a.cost) ts (env_atop a.writes e)))
    (framed f k c t e)
