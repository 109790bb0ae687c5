use Rattle.std.proofs.Common.{◌≡◌, ◌++◌, drop, map}
use Rattle.tx_items.specs.Cells.{cells_across}
use Rattle.tx_items.proofs.tables.RowCells.widths.Given as goal

abbrev pub invariant-loop-cell : goal.invariant-loop-cell
invariant-loop-cell l =
    l.widths.items ++ map cells_across (drop l.cell-index l.cell-items) ≡ map cells_across l.cell-items
