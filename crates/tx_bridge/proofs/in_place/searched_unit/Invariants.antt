use Rattle.tx_bridge.specs.InPlace.{is_changed}
use Rattle.tx_bridge.proofs.Slotting.{Misses}
use Rattle.tx_bridge.proofs.in_place.searched_unit.Given as goal

abbrev pub invariant-loop-i : goal.invariant-loop-i
invariant-loop-i l = Misses (λ b. is_changed l.mods b.unit) l.bridges l.i
