use Rattle.std.proofs.Common.{◌≡◌, ◌+◌, ◌≤◌, ◌==◌, get_or}
use Rattle.tx_tree.specs.Cuts.{is_cut}
use Rattle.tx_edit.specs.Keys.{cut_before}
use Rattle.tx_edit.proofs.keys.symbol_start.Given as goal

abbrev pub invariant-loop-start : goal.invariant-loop-start
invariant-loop-start l = record {
  here : cut_before l.text (l.last + 1) ≡ cut_before l.text (l.start + 1);
  within : l.start ≤ l.last;
  begins : is_cut l.text l.start ≡ (get_or l.text l.start 0 == 60);
}

abbrev pub decreases-loop-start : goal.decreases-loop-start
decreases-loop-start l = l.start
