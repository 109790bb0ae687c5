use Rattle.std.proofs.Common.{◌≡◌, ◌-◌, ◌≤◌, drop, length}
use Rattle.tx_origin.specs.Values.{vals}
use Rattle.tx_items.specs.Running.{state_of, set_by_pairs}
use Rattle.tx_items.proofs.showing.Showing.set_pairs.Given as goal

abbrev pub invariant-loop-at : goal.invariant-loop-at
invariant-loop-at l = record {
  pairs : set_by_pairs l.self.attrs (vals (drop l.at l.parts)) ≡ set_by_pairs l.fn.self.attrs (vals l.parts);
  run : (state_of l.self).run ≡ (state_of l.fn.self).run;
  paragraphs : (state_of l.self).paragraphs ≡ (state_of l.fn.self).paragraphs;
  errors : (state_of l.self).errors ≡ (state_of l.fn.self).errors;
  within : l.at ≤ length l.parts;
}

abbrev pub decreases-loop-at : goal.decreases-loop-at
decreases-loop-at l = length l.parts - l.at
