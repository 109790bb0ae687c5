use Rattle.tx_bridge.proofs.OtherParts.{OthersSoFar}
use Rattle.tx_bridge.proofs.within.others_at.Given as goal

abbrev pub invariant-loop-j : goal.invariant-loop-j
invariant-loop-j l = OthersSoFar l.path l.parts l.numbers l.places l.others.items l.j
