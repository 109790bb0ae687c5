use Rattle.std.proofs.Common.{arith, subst, sym}
use Rattle.std.proofs.lemmas.Grind.{common_steps}
use Rattle.tx_kept.proofs.Applying.{pass_starts, pass_applies, passes_on, passed}
use Rattle.tx_kept.proofs.course.trees_before.Goals as goal

pub pass-requires : goal.pass-requires
pass-requires g c =
    pass_applies c.args.mods.now c.loop-m.m-index c.loop-m.trees.items c.args.before.now c.loop-m.tree
    c.args.steps.now c.loop-m.steps c.loop-m.invariant (omega arith) c.m-item.result c.m-item.is

pub loop-m-init : goal.loop-m-init
loop-m-init g c =
    pass_starts c.args.mods.now c.in_ok-trees.trees.items c.args.before.now c.in_ok-tree.tree c.args.steps.now
    c.in_ok-trees.ensures.items c.in_ok-tree.ensures c.requires

pub loop-m-preserved : goal.loop-m-preserved
loop-m-preserved g c =
    passes_on c.args.mods.now c.loop-m.m-index c.loop-m.trees.items c.args.before.now c.loop-m.tree
    c.args.steps.now c.loop-m.steps c.loop-m.invariant (omega arith) c.m-item.result c.m-item.is c.pass.new.tree
    c.pass.new.trees.items c.pass.new.steps c.in_ok-pass.ensures.tree c.in_ok-pass.ensures.trees
    c.in_ok-pass.ensures.counted

pub returns-clause-trees : goal.returns-clause-trees
returns-clause-trees g c =
    passed c.args.mods.now c.loop-m.m-index c.loop-m.trees.items c.args.before.now c.loop-m.tree c.args.steps.now
    c.loop-m.steps c.loop-m.invariant (grind (arith, common_steps))
