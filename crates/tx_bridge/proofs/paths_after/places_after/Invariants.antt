use Rattle.tx_bridge.proofs.Going.{Going}
use Rattle.tx_bridge.proofs.paths_after.places_after.Given as goal

abbrev pub invariant-loop-m : goal.invariant-loop-m
invariant-loop-m g l = Going l.mods l.m-index l.fn.paths.items l.paths.items l.before l.tree l.fn.steps l.steps
