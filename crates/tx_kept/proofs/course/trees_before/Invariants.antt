use Rattle.tx_kept.proofs.Applying.{Passing}
use Rattle.tx_kept.proofs.course.trees_before.Given as goal

abbrev pub invariant-loop-m : goal.invariant-loop-m
invariant-loop-m g l = Passing l.mods l.m-index l.trees.items l.before l.tree l.fn.steps l.steps
