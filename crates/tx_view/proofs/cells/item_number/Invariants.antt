use Rattle.std.proofs.Common.{◌≡◌, ◌+◌, ◌<◌, ◌^◌, drop}
use Rattle.tx_view_form.specs.Cells.{items_before}
use Rattle.tx_view.proofs.cells.item_number.Given as goal

abbrev pub invariant-loop-i : goal.invariant-loop-i
invariant-loop-i l = record {
  number : items_before l.line.indent l.items l.column ≡ l.i + items_before l.at (drop l.i l.items) l.column;
  small : l.at < 2 ^ 32;
}
