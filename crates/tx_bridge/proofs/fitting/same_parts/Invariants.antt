use Rattle.tx_bridge.proofs.Staying.{AreSameFrom}
use Rattle.tx_bridge.proofs.fitting.same_parts.Given as goal

abbrev pub invariant-loop-i : goal.invariant-loop-i
invariant-loop-i l = AreSameFrom l.kept l.parts l.i
