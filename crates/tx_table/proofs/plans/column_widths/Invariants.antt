use Rattle.std.proofs.Common.{◌≡◌, drop}
use Rattle.tx_table.specs.Columns.{wider, column_widths}
use Rattle.tx_table.proofs.plans.column_widths.Given as goal

abbrev pub invariant-loop-row : goal.invariant-loop-row
invariant-loop-row l = wider l.columns.items (column_widths (drop l.row-index l.rows)) ≡ column_widths l.rows
