use Rattle.tx_kept.proofs.Along.{Along}
use Rattle.tx_kept.proofs.course.carried_along.Given as goal

abbrev pub invariant-loop-i : goal.invariant-loop-i
invariant-loop-i l = Along l.mods l.trees l.before l.i l.path l.place
