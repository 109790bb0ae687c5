use Rattle.std.proofs.Common.{◌≡◌, ◌+◌, drop}
use Rattle.tx_items.specs.Running.{gaps_and_columns}
use Rattle.tx_items.proofs.tables.cells_of_columns.Given as goal

abbrev pub invariant-loop-column : goal.invariant-loop-column
invariant-loop-column l = l.cells + gaps_and_columns (drop l.column-index l.columns) ≡ gaps_and_columns l.columns
