use Rattle.std.proofs.Common.{◌≡◌, ◌≤◌, drop, length}
use Rattle.std.specs.Prelude.{replicate}
use Rattle.std.specs.List.{range_with_len}
use Rattle.tx_table.specs.declared.settings.Side.TheVariants.{Left}
use Rattle.tx_table.specs.Painting.{last_set, Painted}
use Rattle.tx_table.proofs.sides.row_sides.Given as goal

abbrev pub invariant-loop-column : goal.invariant-loop-column
invariant-loop-column l = record {
  sides : l.sides.items ≡ replicate l.column Left;
  next : l.next.items ≡ range_with_len 0 l.column;
}

abbrev pub invariant-loop-left : goal.invariant-loop-left
invariant-loop-left l = record {
  some : l.left ≤ length l.settings;
  wide : length l.sides.items ≡ l.count;
  painted : Painted (last_set (drop l.left l.settings) l.row) l.sides.items l.next.items;
}

abbrev pub decreases-loop-left : goal.decreases-loop-left
decreases-loop-left l = l.left
