use Rattle.std.proofs.Common.{◌≡◌, ◌-◌, ◌<◌, ◌⊎◌, inl, inr, ap, refl, arith}
use Rattle.std.specs.Prelude.{true}
use Rattle.tx_exec_form.specs.Evaluated.{WideTrace}
use Rattle.tx_exec.specs.States.{before_of}
use Rattle.tx_walk.specs.Layers.{stage_in}
use Rattle.tx_walk.proofs.LayerSteps.{held_comes, held_over, tree_done}
use Rattle.tx_walk.proofs.layers.LayerSoFar.add_held.Goals as goal
use Rattle.tx_walk.proofs.layers.LayerSoFar.add_held.Goals.{then-trace-rest-via-then-trace-rest}
use Rattle.tx_walk.proofs.layers.LayerSoFar.add_held.Goals.{then-trace-rest-via-else-trace-rest+then-trace-levels}

pub returns-then-trace-rest-clause-comes : goal.returns-then-trace-rest-clause-comes
returns-then-trace-rest-clause-comes c =
    let cost = ap (λ (w : WideTrace). w.cost) c.trace-trace.ensures.is in
    let height = ap (λ (w : WideTrace). w.height) c.trace-trace.ensures.is in
    let dear : (c.args.left - c.args.self.now.joined.cost < c.args.found.now.trace.cost)
    ⊎ (c.args.levels < c.args.found.now.trace.height) =
    elim c.then-trace-rest.branch [
      | then-trace-rest-via-then-trace-rest w ↦ inl (omega (arith, w.if-trace-rest.true, cost))
      | then-trace-rest-via-else-trace-rest+then-trace-levels w ↦ inr (omega (arith, w.if-trace-levels.true, height))
    ] in
    λ count. record {
      comes = held_over c.args.found.now c.args.levels (c.args.left - c.args.self.now.joined.cost)
          (before_of c.args.env.now) c.trace-trace.ensures.supports c.requires.fits dear;
      count = omega arith;
    }

pub returns-clause-comes : goal.returns-clause-comes
returns-clause-comes c =
    let cost = ap (λ (w : WideTrace). w.cost) c.trace-trace.ensures.is in
    let height = ap (λ (w : WideTrace). w.height) c.trace-trace.ensures.is in
    λ count. tree_done (λ t e. true) c.args.levels c.args.left c.args.name.now c.args.found.now.tree
    (stage_in c.args.self.now c.args.env.now count) (stage_in c.add_done.new.self c.add_done.new.env count)
    c.in_ok-held.field-0 c.args.found.now.trace
    (held_comes c.args.found.now c.args.levels (c.args.left - c.args.self.now.joined.cost)
    (before_of c.args.env.now) c.trace-trace.ensures.supports c.requires.fits
    (omega (arith, c.if-trace-rest.false, cost)) (omega (arith, c.if-trace-levels.false, height)))
    c.in_ok-held.ensures c.in_ok-add_done.ensures.joined c.in_ok-add_done.ensures.settings
    c.in_ok-add_done.ensures.names (omega arith)
