use Rattle.std.proofs.Common.{◌++◌}
use Rattle.tx_bridge.proofs.KeptPlaces.{KeepsOn}
use Rattle.tx_bridge.proofs.keeping.all_keep_place.Given as goal

abbrev pub invariant-loop-m : goal.invariant-loop-m
invariant-loop-m l = KeepsOn l.base l.mods (l.base ++ l.below) l.m-index
