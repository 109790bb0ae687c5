use Rattle.std.proofs.Common.{refl, arith}
use Rattle.std.proofs.lemmas.Result.{IfOk-weaker}
use Rattle.tx_walk.specs.Steps.{so_far_of}
use Rattle.tx_walk.specs.Prior.{holder_of}
use Rattle.tx_walk.specs.Layers.{stage_in}
use Rattle.tx_walk.proofs.LayerSteps.{no_levels, name_over, setting_comes}
use Rattle.tx_walk.proofs.layers.LayerSoFar.add_setting.Goals as goal

pub returns-then-levels-eq0-clause-comes : goal.returns-then-levels-eq0-clause-comes
returns-then-levels-eq0-clause-comes g c =
    no_levels (holder_of c.args.kept.now) c.args.levels c.args.left c.args.name.now c.args.t.now
    (stage_in c.args.self.now c.args.env.now c.args.steps.now)
    (stage_in c.args.self.now c.args.env.now c.args.steps.now) c.if-levels-eq0.true refl

pub returns-then-not-named-clause-comes : goal.returns-then-not-named-clause-comes
returns-then-not-named-clause-comes g c =
    name_over (holder_of c.args.kept.now) c.args.levels c.args.left c.args.name.now c.args.t.now
    (stage_in c.args.self.now c.args.env.now c.args.steps.now) _ (so_far_of c.add_name.new.self) (omega arith)
    (rw c.if-not-named.true at c.in_ok-named.ensures) refl

pub returns-clause-comes : goal.returns-clause-comes
returns-clause-comes g c =
    IfOk-weaker c.add_tree.result _ _
    (λ went h. setting_comes (holder_of c.args.kept.now) c.args.levels c.args.left c.args.name.now c.args.t.now
    (stage_in c.args.self.now c.args.env.now c.args.steps.now)
    (stage_in c.add_tree.new.self c.add_tree.new.env c.add_tree.new.steps) (so_far_of c.add_name.new.self) went
    (omega arith) (rw c.if-not-named.false at c.in_ok-named.ensures) h)
    c.add_tree.ensures.comes
