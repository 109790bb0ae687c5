use Rattle.std.proofs.Common.{◌≡◌, ◌+◌, drop}
use Rattle.tx_items.specs.Cells.{cells_across}
use Rattle.tx_items.proofs.tables.width_of.Given as goal

abbrev pub invariant-loop-item : goal.invariant-loop-item
invariant-loop-item l = l.cells + cells_across (drop l.item-index l.items) ≡ cells_across l.items
