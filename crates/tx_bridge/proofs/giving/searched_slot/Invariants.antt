use Rattle.tx_bridge.specs.Carrying.{is_path}
use Rattle.tx_bridge.proofs.Slotting.{Misses}
use Rattle.tx_bridge.proofs.giving.searched_slot.Given as goal

abbrev pub invariant-loop-i : goal.invariant-loop-i
invariant-loop-i l = Misses (λ b. is_path l.path b.unit.path) l.new l.i
