use Rattle.tx_bridge.proofs.Putting.{PutSoFar}
use Rattle.tx_bridge.proofs.replacing.put_all.Given as goal

abbrev pub invariant-loop-i : goal.invariant-loop-i
invariant-loop-i l = PutSoFar l.fn.parts.items l.parts.items l.fn.others.items l.others.items l.i l.at l.k
