use Rattle.std.proofs.Common.{◌≡◌, ◌++◌, drop}
use Rattle.std.specs.Prelude.{replicate}
use Rattle.tx_terminal.specs.Terminals.{blank}
use Rattle.tx_terminal.proofs.cells.erase_cells.Given as goal

-- All cells up to this one are blank.
abbrev pub invariant-loop-at : goal.invariant-loop-at
invariant-loop-at l = l.row ≡ replicate l.at blank ++ drop l.at l.fn.row
