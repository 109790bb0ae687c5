use Rattle.std.proofs.Common.{◌≡◌, take, length}
use Rattle.tx_terminal.proofs.Repainting.{IsWrittenTo}
use Rattle.tx_terminal.proofs.painter.add_changed.Given as goal

-- What is written so far begins what writes all rows that aren't the former ones.
abbrev pub invariant-loop-at : goal.invariant-loop-at
invariant-loop-at l = record {
  written : IsWrittenTo l.former l.rows l.fn.out.items l.out.items l.at;
  grows : take (length l.fn.out.items) l.out.items ≡ l.fn.out.items;
}
