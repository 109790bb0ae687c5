use Rattle.tx_bridge.proofs.Losing.{AreLost}
use Rattle.tx_bridge.proofs.lost.are_lost.Given as goal

abbrev pub invariant-loop-place : goal.invariant-loop-place
invariant-loop-place l = AreLost l.mods l.places l.place-index
