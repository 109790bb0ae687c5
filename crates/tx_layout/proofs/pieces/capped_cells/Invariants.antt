use Rattle.std.proofs.Common.{◌≡◌, ◌+◌, ◌≤◌, drop, min}
use Rattle.tx_items.specs.Cells.{cells_across}
use Rattle.tx_layout.proofs.pieces.capped_cells.Given as goal

abbrev pub invariant-loop-item : goal.invariant-loop-item
invariant-loop-item l = record {
  so_far : min (l.cells + cells_across (drop l.item-index l.items)) 501 ≡ min (cells_across l.items) 501;
  small : l.cells ≤ 501;
}
