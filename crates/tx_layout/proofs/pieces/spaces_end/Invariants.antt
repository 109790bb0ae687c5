use Rattle.std.proofs.Common.{◌-◌, ◌≤◌, length}
use Rattle.std.specs.Prelude.{slice_range, All}
use Rattle.tx_layout.specs.Words.{Blank}
use Rattle.tx_layout.proofs.pieces.spaces_end.Given as goal

abbrev pub invariant-loop-end : goal.invariant-loop-end
invariant-loop-end l = record {
  onward : l.from ≤ l.end;
  within : l.end ≤ length l.items;
  blank : All Blank (slice_range l.items l.from l.end);
}

abbrev pub decreases-loop-end : goal.decreases-loop-end
decreases-loop-end l = length l.items - l.end
