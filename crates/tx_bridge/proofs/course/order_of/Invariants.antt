use Rattle.tx_bridge.proofs.Aligned.{AlignedTo}
use Rattle.tx_bridge.proofs.course.order_of.Given as goal

abbrev pub invariant-loop-i : goal.invariant-loop-i
invariant-loop-i l = AlignedTo l.order.first l.order.depth l.units l.i
