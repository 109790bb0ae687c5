use Rattle.std.proofs.Common.{◌-◌, length}
use Rattle.tx_kept.proofs.Moving.{Noted}
use Rattle.tx_kept.proofs.carrying.moves_of.Given as goal

abbrev pub invariant-loop-done : goal.invariant-loop-done
invariant-loop-done g l = Noted l.mods l.before l.entries (length l.entries - l.done) l.moves.items
