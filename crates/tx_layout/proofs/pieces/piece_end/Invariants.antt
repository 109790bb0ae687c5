use Rattle.std.proofs.Common.{◌≡◌, ◌-◌, ◌<◌, ◌≤◌, length}
use Rattle.std.specs.Prelude.{slice_range, All}
use Rattle.tx_items.specs.Cells.{cells_across}
use Rattle.tx_layout.specs.Words.{Solid, Unbreakable}
use Rattle.tx_layout.proofs.pieces.piece_end.Given as goal

abbrev pub invariant-loop-end : goal.invariant-loop-end
invariant-loop-end l = record {
  some : l.from < l.end;
  within : l.end ≤ length l.items;
  solid : All Solid (slice_range l.items l.from l.end);
  unbroken : All Unbreakable (slice_range l.items l.from (l.end - 1));
  used : l.used ≡ cells_across (slice_range l.items l.from l.end);
  narrow : l.used ≤ l.least;
}

abbrev pub decreases-loop-end : goal.decreases-loop-end
decreases-loop-end l = length l.items - l.end
