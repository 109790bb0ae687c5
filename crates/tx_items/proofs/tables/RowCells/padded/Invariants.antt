use Rattle.std.proofs.Common.{◌≡◌, ◌+◌, ◌++◌, drop, length}
use Rattle.std.specs.Vec.Iter.{into_iter_items}
use Rattle.tx_items.specs.Running.{padded_from}
use Rattle.tx_items.proofs.tables.RowCells.padded.Given as goal

abbrev pub invariant-loop-cell : goal.invariant-loop-cell
invariant-loop-cell l = record {
  counted : l.at + length (into_iter_items l.cell-iterator) ≡ length l.fn.self;
  so_far : l.items.items ++ padded_from l.at (drop l.at l.columns) (drop l.at l.left) (drop l.at l.right)
      (into_iter_items l.cell-iterator)
      ≡ padded_from 0 l.columns l.left l.right l.fn.self;
}
