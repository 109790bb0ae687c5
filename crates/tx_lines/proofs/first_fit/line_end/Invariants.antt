use Rattle.std.proofs.Common.{◌≡◌, ◌≤◌}
use Rattle.tx_lines.specs.FirstFit.{line_cells}
use Rattle.tx_lines.proofs.first_fit.line_end.Given as goal

abbrev pub invariant-loop-end : goal.invariant-loop-end
invariant-loop-end l = (l.used ≡ line_cells l.pieces l.from l.end) × (l.used ≤ l.width)
