use Rattle.std.proofs.Common.{◌≡◌, ◌+◌, ◌-◌, ◌*◌, ◌≤◌, drop, length, []}
use Rattle.tx_tree.specs.WideTree.{total_size, deepest}
use Rattle.tx_origin.specs.Values.{vals, plains}
use Rattle.tx_origin.specs.TaggedTrees.{tagged_of, kids_of}
use Rattle.tx_exec_form.specs.Rows.{ex, each, with_parts, chosen, turns}
use Rattle.tx_exec_form.specs.declared.TheConstants.{MOST_TURNS}
use Rattle.tx_exec.specs.FrameView.{frame_in}
use Rattle.tx_exec.specs.States.{state_of, before_of}
use Rattle.tx_exec.specs.Settings.{sets_of}
use Rattle.tx_exec.specs.Told.{IsTold}
use Rattle.tx_exec.proofs.progress.Progress.+ev.Given as goal

abbrev pub decreases-ev : goal.decreases-ev
decreases-ev g l = 20 * l.levels + 3

abbrev pub decreases-level : goal.decreases-level
decreases-level g l = 20 * l.levels + 2

abbrev pub decreases-node : goal.decreases-node
decreases-node g l = 20 * l.levels + 1

abbrev pub decreases-row : goal.decreases-row
decreases-row g l = 20 * l.levels

abbrev pub decreases-other_row : goal.decreases-other_row
decreases-other_row g l = 20 * l.levels - 1

abbrev pub decreases-rebuilt : goal.decreases-rebuilt
decreases-rebuilt g l = 20 * l.levels - 3

abbrev pub decreases-each : goal.decreases-each
decreases-each g l = 20 * l.levels + 5

abbrev pub decreases-kid_value : goal.decreases-kid_value
decreases-kid_value g l = 20 * l.levels + 4

abbrev pub decreases-only : goal.decreases-only
decreases-only g l = 20 * l.levels - 2

abbrev pub decreases-only_child : goal.decreases-only_child
decreases-only_child g l = 20 * l.levels - 3

abbrev pub decreases-again : goal.decreases-again
decreases-again g l = 20 * l.levels - 4

abbrev pub decreases-by_name : goal.decreases-by_name
decreases-by_name g l = 20 * l.levels - 1

abbrev pub decreases-tag : goal.decreases-tag
decreases-tag g l = 20 * l.levels - 2

abbrev pub decreases-call : goal.decreases-call
decreases-call g l = 20 * l.levels - 3

abbrev pub decreases-applied : goal.decreases-applied
decreases-applied g l = 20 * l.levels - 4

abbrev pub decreases-pair : goal.decreases-pair
decreases-pair g l = 20 * l.levels + 5

abbrev pub decreases-assign : goal.decreases-assign
decreases-assign g l = 20 * l.levels - 1

abbrev pub decreases-assigned : goal.decreases-assigned
decreases-assigned g l = 20 * l.levels - 2

abbrev pub decreases-with_row : goal.decreases-with_row
decreases-with_row g l = 20 * l.levels - 1

abbrev pub decreases-with_parts : goal.decreases-with_parts
decreases-with_parts g l = 20 * l.levels - 2

abbrev pub decreases-all_pairs : goal.decreases-all_pairs
decreases-all_pairs g l = 20 * l.levels - 3

abbrev pub decreases-with_body : goal.decreases-with_body
decreases-with_body g l = 20 * l.levels - 3

abbrev pub decreases-with_names : goal.decreases-with_names
decreases-with_names g l = 20 * l.levels + 5

abbrev pub decreases-arg : goal.decreases-arg
decreases-arg g l = 20 * l.levels - 2

abbrev pub decreases-arg_of : goal.decreases-arg_of
decreases-arg_of g l = 20 * l.levels - 3

abbrev pub decreases-arg_part : goal.decreases-arg_part
decreases-arg_part g l = 20 * l.levels - 4

abbrev pub decreases-numbered : goal.decreases-numbered
decreases-numbered g l = 20 * l.levels - 6

abbrev pub decreases-used : goal.decreases-used
decreases-used g l = 20 * l.levels - 7

abbrev pub decreases-all_part : goal.decreases-all_part
decreases-all_part g l = 20 * l.levels - 4

abbrev pub decreases-all_numbered : goal.decreases-all_numbered
decreases-all_numbered g l = 20 * l.levels - 5

abbrev pub decreases-all_used : goal.decreases-all_used
decreases-all_used g l = 20 * l.levels - 6

abbrev pub decreases-all : goal.decreases-all
decreases-all g l = 20 * l.levels + 2

abbrev pub decreases-all_values : goal.decreases-all_values
decreases-all_values g l = 20 * l.levels + 1

abbrev pub decreases-flow_row : goal.decreases-flow_row
decreases-flow_row g l = 20 * l.levels - 2

abbrev pub decreases-truth : goal.decreases-truth
decreases-truth g l = 20 * l.levels + 4

abbrev pub decreases-if_row : goal.decreases-if_row
decreases-if_row g l = 20 * l.levels - 3

abbrev pub decreases-case_row : goal.decreases-case_row
decreases-case_row g l = 20 * l.levels - 3

abbrev pub decreases-chosen : goal.decreases-chosen
decreases-chosen g l = 20 * l.levels - 4

abbrev pub decreases-pick : goal.decreases-pick
decreases-pick g l = 20 * l.levels - 5

abbrev pub decreases-while_row : goal.decreases-while_row
decreases-while_row g l = 20 * l.levels - 3

abbrev pub decreases-turns : goal.decreases-turns
decreases-turns g l = 20 * l.levels - 4

abbrev pub decreases-all_turns : goal.decreases-all_turns
decreases-all_turns g l = 20 * l.levels - 5

abbrev pub decreases-map_args : goal.decreases-map_args
decreases-map_args g l = 20 * l.levels - 3

abbrev pub decreases-map_of : goal.decreases-map_of
decreases-map_of g l = 20 * l.levels - 4

abbrev pub decreases-map_parts : goal.decreases-map_parts
decreases-map_parts g l = 20 * l.levels - 5

abbrev pub decreases-primitive : goal.decreases-primitive
decreases-primitive g l = 20 * l.levels - 2

abbrev pub invariant-each-loop-i : goal.invariant-each-loop-i
invariant-each-loop-i g l = record {
  run :
      each (ex l.levels) (frame_in l.frame) l.values.items (drop l.i (kids_of (tagged_of l.t)))
      (before_of l.env) (state_of l.self)
      ≡ each (ex l.fn.levels) (frame_in l.fn.frame) [] (drop l.fn.first (kids_of (tagged_of l.fn.t)))
      (before_of l.fn.env) (state_of l.fn.self);
  paid : l.steps + l.self.left ≡ l.fn.steps + l.fn.self.left;
  arity : length l.values.items + l.fn.first ≡ l.i;
  size : total_size (plains (vals l.values.items)) + l.self.left ≤ l.fn.self.left;
  depth : deepest (plains (vals l.values.items)) ≤ l.fn.levels;
}

abbrev pub invariant-all_pairs-loop-i : goal.invariant-all_pairs-loop-i
invariant-all_pairs-loop-i g l = record {
  run :
      with_parts l.levels (ex (l.levels - 1)) (frame_in l.frame) l.label l.t.at l.parts.values.items
      (sets_of l.parts.settings.items) (drop (2 * l.i) (kids_of (tagged_of l.t))) (before_of l.env) (state_of l.self)
      ≡ with_parts l.fn.levels (ex (l.fn.levels - 1)) (frame_in l.fn.frame) l.fn.label l.fn.t.at [] []
      (kids_of (tagged_of l.fn.t)) (before_of l.fn.env) (state_of l.fn.self);
  paid : l.steps + l.self.left ≡ l.fn.steps + l.fn.self.left;
  told : IsTold l.parts l.self.left l.fn.self.left (l.fn.levels - 1) l.i;
}

abbrev pub invariant-pick-loop-i : goal.invariant-pick-loop-i
invariant-pick-loop-i g l = record {
  run :
      chosen l.levels (ex (l.levels - 1)) (frame_in l.frame) l.label (drop (2 * l.i) (kids_of (tagged_of l.t)))
      (before_of l.env) (state_of l.self)
      ≡ chosen l.fn.levels (ex (l.fn.levels - 1)) (frame_in l.fn.frame) l.fn.label (kids_of (tagged_of l.fn.t))
      (before_of l.fn.env) (state_of l.fn.self);
  paid : l.steps + l.self.left ≡ l.fn.steps + l.fn.self.left;
  left : l.self.left ≤ l.fn.self.left;
}

abbrev pub invariant-all_turns-loop-turn : goal.invariant-all_turns-loop-turn
invariant-all_turns-loop-turn g l = record {
  run :
      turns (MOST_TURNS - l.turn) l.levels (ex (l.levels - 1)) (frame_in l.frame) l.label (tagged_of l.condition)
      (tagged_of l.body) l.values.items (before_of l.env) (state_of l.self)
      ≡ turns MOST_TURNS l.fn.levels (ex (l.fn.levels - 1)) (frame_in l.fn.frame) l.fn.label
      (tagged_of l.fn.condition) (tagged_of l.fn.body) [] (before_of l.fn.env) (state_of l.fn.self);
  paid : l.steps + l.self.left ≡ l.fn.steps + l.fn.self.left;
  few : length l.values.items ≡ l.turn;
  size : total_size (plains (vals l.values.items)) + l.self.left ≤ l.fn.self.left;
  depth : deepest (plains (vals l.values.items)) ≤ l.fn.levels - 1;
}
