use Rattle.std.proofs.Common.{refl, sym}
use Rattle.std.proofs.lemmas.Result.{IfOk-weaker}
use Rattle.std.specs.Prelude.{true}
use Rattle.tx_exec.specs.States.{before_of}
use Rattle.tx_parts.specs.LayerCosts.{holds_nothing}
use Rattle.tx_walk.specs.Prior.{holder_of}
use Rattle.tx_walk.specs.Layers.{stage_in}
use Rattle.tx_walk.proofs.LayerSteps.{tree_by, serves_is}
use Rattle.tx_walk.proofs.layers.LayerSoFar.add_tree.Goals as goal

pub add_held-requires-clause-fits : goal.add_held-requires-clause-fits
add_held-requires-clause-fits g c =
    (serves_is c.args.t.now (before_of c.args.env.now) c.in-Some.found.now c.in-Some.ensures.0).1

pub returns-in-Some-clause-comes : goal.returns-in-Some-clause-comes
returns-in-Some-clause-comes g c =
    IfOk-weaker c.add_held.result _ _
    (λ went h. tree_by (λ t e. true) (holder_of c.args.kept.now) c.args.levels c.args.left c.args.name.now
    c.in-Some.found.now.tree c.args.t.now (stage_in c.args.self.now c.args.env.now c.args.steps.now)
    (stage_in c.add_held.new.self c.add_held.new.env c.args.steps.now) went
    (serves_is c.args.t.now (before_of c.args.env.now) c.in-Some.found.now c.in-Some.ensures.0).0
    (sym c.in-Some.ensures.1) h)
    (c.add_held.ensures.comes c.args.steps.now)

pub returns-in-None-clause-comes : goal.returns-in-None-clause-comes
returns-in-None-clause-comes g c =
    IfOk-weaker c.add_new.result _ _
    (λ went h. tree_by holds_nothing (holder_of c.args.kept.now) c.args.levels c.args.left c.args.name.now
    c.args.t.now c.args.t.now (stage_in c.args.self.now c.args.env.now c.args.steps.now)
    (stage_in c.add_new.new.self c.add_new.new.env c.add_new.new.steps) went refl
    (sym c.in-None.ensures) h)
    c.add_new.ensures.comes
