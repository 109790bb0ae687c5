use Rattle.std.proofs.Common.{◌≡◌, drop}
use Rattle.tx_part_layout.specs.LaidParts.{before_at}
use Rattle.tx_part_layout.proofs.finding.number_at.Given as goal

abbrev pub invariant-loop-i : goal.invariant-loop-i
invariant-loop-i l = before_at l.old l.path ≡ before_at (drop l.i l.old) l.path
