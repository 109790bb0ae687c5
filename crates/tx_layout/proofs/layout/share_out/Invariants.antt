use Rattle.std.proofs.Common.{◌≡◌, ◌++◌, drop, map}
use Rattle.tx_layout.specs.Rows.{line_at}
use Rattle.tx_layout.proofs.layout.share_out.Given as goal

abbrev pub invariant-loop-row : goal.invariant-loop-row
invariant-loop-row l =
    l.lines.items ++ map (line_at l.items) (drop l.row-index l.rows) ≡ map (line_at l.items) l.rows
