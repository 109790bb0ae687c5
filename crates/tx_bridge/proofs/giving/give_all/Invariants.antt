use Rattle.tx_bridge.proofs.Handed.{Giving}
use Rattle.tx_bridge.proofs.giving.give_all.Given as goal

abbrev pub invariant-loop-i : goal.invariant-loop-i
invariant-loop-i l = Giving l.places l.fn.old l.old l.fn.new l.new l.i
