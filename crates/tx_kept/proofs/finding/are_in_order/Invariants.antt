use Rattle.tx_kept.proofs.Found.{AreInRow}
use Rattle.tx_kept.proofs.finding.are_in_order.Given as goal

abbrev pub invariant-loop-i : goal.invariant-loop-i
invariant-loop-i g l = AreInRow l.entries l.i
