use Rattle.std.proofs.Common.{◌≡◌, drop}
use Rattle.std.specs.Prelude.{max}
use Rattle.tx_table.specs.Grids.{column_count}
use Rattle.tx_table.proofs.cells.column_count.Given as goal

abbrev pub invariant-loop-row : goal.invariant-loop-row
invariant-loop-row l = max l.most (column_count (drop l.row-index l.rows)) ≡ column_count l.rows
