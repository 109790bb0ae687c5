use Rattle.tx_unit_layout.proofs.Putting.{PutSoFar}
use Rattle.tx_unit_layout.proofs.laid_parts.put_all.Given as goal

abbrev pub invariant-loop-i : goal.invariant-loop-i
invariant-loop-i l = PutSoFar l.fn.parts.items l.parts.items l.fn.places.items l.places.items l.i l.at l.k
