use Rattle.tx_bridge.proofs.Slotting.{InOrderTo}
use Rattle.tx_bridge.proofs.giving.order_of.Given as goal

abbrev pub invariant-loop-i : goal.invariant-loop-i
invariant-loop-i l = InOrderTo l.first l.new l.i
