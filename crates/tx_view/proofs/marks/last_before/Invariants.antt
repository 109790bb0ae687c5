use Rattle.std.proofs.Common.{◌≡◌, ◌≤◌, take}
use Rattle.tx_unit_layout.specs.Stretches.{stretches}
use Rattle.tx_view.specs.Marks.{last_of}
use Rattle.tx_view.proofs.Finding.{marks_in}
use Rattle.tx_view.proofs.marks.last_before.Given as goal

abbrev pub invariant-loop-end : goal.invariant-loop-end
invariant-loop-end l = record {
  within : l.end ≤ l.k;
  last : last_of (marks_in (take l.k (stretches l.shown))) ≡ last_of (marks_in (take l.end (stretches l.shown)));
}

abbrev pub decreases-loop-end : goal.decreases-loop-end
decreases-loop-end l = l.end
