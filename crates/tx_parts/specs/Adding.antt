-- What a part that is evaluated alone does in the whole.
use Rattle.std.specs.Prelude.{ℕ, ◌-◌, min, List, Option, Some, None}
use Rattle.tx_origin.specs.Values.{WideValue}
use Rattle.tx_exec_form.specs.Runs.{State, Ran, Over, Done}
use Rattle.tx_exec_form.specs.Evaluated.{WideTrace}
use Rattle.tx_parts.specs.Atop.{atop, both_looks}
use Rattle.tx_origin.specs.Under.{value_under}

-- The state of the whole after a part with this trace, which had k levels and began at this state. The part's looks at
-- names that the whole has set are not looks of the whole. What the part has set overrides what was set before.
abbrev pub after_part : ℕ → State → WideTrace → State
after_part k s trace = record {
  own = atop trace.writes s.own;
  looks = both_looks s.looks s.own trace.looks;
  left = s.left - trace.cost;
  slack = min s.slack (k - trace.height);
}

-- The value's origins are under the path of the part.
abbrev pub part_ran : ℕ → List ℕ → State → Option WideTrace → Ran WideValue
part_ran k path s None = Over
part_ran k path s (Some trace) = Done (value_under path trace.value) (after_part k s trace)
