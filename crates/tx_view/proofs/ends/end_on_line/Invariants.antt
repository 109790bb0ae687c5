use Rattle.std.proofs.Common.{◌≡◌, ◌+◌, ◌<◌, ◌^◌, [], drop}
use Rattle.tx_items.specs.Cells.{cells_across}
use Rattle.tx_view.specs.Ends.{has_end}
use Rattle.tx_view.proofs.EndsFound.{cell_from}
use Rattle.tx_view.proofs.EndsUnder.{place_after}
use Rattle.tx_view.proofs.ends.end_on_line.Given as goal

abbrev pub invariant-loop-item : goal.invariant-loop-item
invariant-loop-item l = record {
  found : cell_from l.end (has_end l.end [] (place_after l.steps l.offset)) l.line.indent l.items
      ≡ cell_from l.end (has_end l.end [] (place_after l.steps l.offset)) l.from (drop l.item-index l.items);
  fits : l.from + cells_across (drop l.item-index l.items) < 2 ^ 32;
}
