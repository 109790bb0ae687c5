use Rattle.std.proofs.Common.{◌≡◌}
use Rattle.std.specs.Prelude.{replicate}
use Rattle.tx_terminal.specs.Terminals.{blank}
use Rattle.tx_terminal.proofs.cells.Line.new.Given as goal

abbrev pub invariant-loop-column : goal.invariant-loop-column
invariant-loop-column l = l.cells.items ≡ replicate l._column blank
