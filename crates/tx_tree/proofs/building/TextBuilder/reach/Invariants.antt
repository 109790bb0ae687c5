use Rattle.tx_tree.proofs.Growing.{IsReached}
use Rattle.tx_tree.proofs.building.TextBuilder.reach.Given as goal

abbrev pub invariant-loop-i : goal.invariant-loop-i
invariant-loop-i l = IsReached l.self l.bytes l.i l.place
