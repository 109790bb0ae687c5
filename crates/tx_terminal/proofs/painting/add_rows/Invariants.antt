use Rattle.std.proofs.Common.{◌≡◌, ◌++◌, drop, take, length}
use Rattle.std.specs.List.{AllByRecursion}
use Rattle.tx_terminal.specs.Characters.{IsShown}
use Rattle.tx_terminal.specs.Painting.{rows_bytes}
use Rattle.tx_terminal.proofs.painting.add_rows.Given as goal

-- What is written so far and what is left are all, and all are valid where those left are.
abbrev pub invariant-loop-row : goal.invariant-loop-row
invariant-loop-row l = record {
  at : l.at ≡ l.row-index;
  added : l.out.items ++ rows_bytes l.at (drop l.row-index l.rows) ≡ l.fn.out.items ++ rows_bytes 0 l.rows;
  valid : AllByRecursion (AllByRecursion IsShown) (drop l.row-index l.rows)
      → AllByRecursion (AllByRecursion IsShown) l.rows;
  grows : take (length l.fn.out.items) l.out.items ≡ l.fn.out.items;
}
