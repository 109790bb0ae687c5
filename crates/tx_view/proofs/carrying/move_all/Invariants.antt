use Rattle.tx_view.proofs.Moved.{Giving}
use Rattle.tx_view.proofs.carrying.move_all.Given as goal

abbrev pub invariant-loop-j : goal.invariant-loop-j
invariant-loop-j l = Giving l.bridges.sources l.fn.old l.old l.fn.new l.new l.j
