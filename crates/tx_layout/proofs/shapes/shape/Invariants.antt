use Rattle.std.proofs.Common.{◌+◌, ◌-◌, ◌<◌, ◌≤◌, ◌++◌, List, length, drop, map, true}
use Rattle.std.specs.Prelude.{slice_range, All}
use Rattle.tx_layout.specs.Shapes.{Whole, Cutting, HasLines}
use Rattle.tx_layout.specs.Rows.{line_at, IsWithin}
use Rattle.tx_layout.specs.declared.layout.Line.{Line}
use Rattle.tx_layout.proofs.shapes.shape.Given as goal

abbrev pub invariant-loop-end : goal.invariant-loop-end
invariant-loop-end l = record {
  so_far : (more : List Line) → HasLines l.frame l.is_first (drop l.start l.items) more
      → HasLines l.frame true l.items (map (line_at l.items) l.rows.items ++ more);
  inside : All (IsWithin (length l.items)) l.rows.items;
  onward : l.start ≤ l.end;
  within : l.end ≤ length l.items;
  whole : All Whole (slice_range l.items l.start l.end);
  cut : l.end < length l.items → All Cutting (slice_range l.items l.end (l.end + 1));
}

abbrev pub decreases-loop-end : goal.decreases-loop-end
decreases-loop-end l = length l.items - l.end
