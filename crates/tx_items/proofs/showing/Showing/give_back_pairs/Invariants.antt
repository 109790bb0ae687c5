use Rattle.std.proofs.Common.{◌≡◌, ◌<◌, ◌%◌, drop, length}
use Rattle.tx_origin.specs.Values.{vals}
use Rattle.tx_items.specs.Running.{state_of, given_back_by_pairs}
use Rattle.tx_items.proofs.showing.Showing.give_back_pairs.Given as goal

abbrev pub invariant-loop-at : goal.invariant-loop-at
invariant-loop-at l = record {
  back : l.self.attrs ≡ given_back_by_pairs (vals (drop l.at l.parts)) l.before l.fn.self.attrs;
  run : (state_of l.self).run ≡ (state_of l.fn.self).run;
  paragraphs : (state_of l.self).paragraphs ≡ (state_of l.fn.self).paragraphs;
  errors : (state_of l.self).errors ≡ (state_of l.fn.self).errors;
  even : l.at % 2 ≡ 0;
  within : l.at < length l.parts;
}

abbrev pub decreases-loop-at : goal.decreases-loop-at
decreases-loop-at l = l.at
