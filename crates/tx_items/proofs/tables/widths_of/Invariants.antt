use Rattle.std.proofs.Common.{◌≡◌, ◌++◌, drop}
use Rattle.tx_items.specs.Tables.{row_widths}
use Rattle.tx_items.proofs.tables.widths_of.Given as goal

abbrev pub invariant-loop-row : goal.invariant-loop-row
invariant-loop-row l = l.widths.items ++ row_widths (drop l.row-index l.rows) ≡ row_widths l.rows
