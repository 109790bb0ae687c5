use Rattle.std.proofs.Common.{◌-◌, ap, sym, subst, ◌∙◌, arith}
use Rattle.std.specs.Prelude.{None}
use Rattle.tx_exec.specs.States.{before_of}
use Rattle.tx_exec.specs.Outcomes.{wide_trace}
use Rattle.tx_exec_form.specs.Laws.{Supports}
use Rattle.tx_exec_form.proofs.Tracing.{supports}
use Rattle.tx_parts.specs.Shells.{bare}
use Rattle.tx_parts.specs.LayerCosts.{holds_nothing}
use Rattle.tx_walk.specs.LayerTraces.{DoneSetting}
use Rattle.tx_walk.specs.Layers.{stage_in, setting_of}
use Rattle.tx_walk.proofs.Behind.{comes_done, counted_done}
use Rattle.tx_walk.proofs.LayerSteps.{tree_done}
use Rattle.tx_walk.proofs.Settled.{cost_within}
use Rattle.tx_walk.proofs.layers.LayerSoFar.add_new.Goals as goal

pub new-setting-requires-clause-supports : goal.new-setting-requires-clause-supports
new-setting-requires-clause-supports g c =
    let comes = comes_done c.in_ok-spend_on.field-0 c.in-Done.trace _ c.in_ok-spend_on.ensures.exact c.in-Done.is in
    subst (λ u. Supports (wide_trace c.in-Done.trace) (bare u)) (sym c.in_ok-share-in-Done.ensures)
    (supports c.args.levels (c.args.left - c.args.self.now.joined.cost) (bare c.args.t.now)
    (before_of c.args.env.now) (wide_trace c.in-Done.trace) comes)

pub add_done-requires : goal.add_done-requires
add_done-requires g c =
    let comes = comes_done c.in_ok-spend_on.field-0 c.in-Done.trace _ c.in_ok-spend_on.ensures.exact c.in-Done.is in
    omega (
      arith,
      cost_within c.args.levels (c.args.left - c.args.self.now.joined.cost) (record {
        tree = c.args.t.now;
        at = None;
      }) (before_of c.args.env.now) (wide_trace c.in-Done.trace) comes,
      ap (λ (z : DoneSetting). z.done.trace.cost) c.new-setting.ensures,
      c.requires.cost,
      c.requires.left,
    )

pub returns-in_ok-add_done-in-Done-clause-comes : goal.returns-in_ok-add_done-in-Done-clause-comes
returns-in_ok-add_done-in-Done-clause-comes g c =
    let comes = comes_done c.in_ok-spend_on.field-0 c.in-Done.trace _ c.in_ok-spend_on.ensures.exact c.in-Done.is in
    tree_done holds_nothing c.args.levels c.args.left c.args.name.now c.args.t.now
    (stage_in c.args.self.now c.args.env.now c.args.steps.now)
    (stage_in c.add_done.new.self c.add_done.new.env c.spend_on.new.steps) c.new-setting.result
    (wide_trace c.in-Done.trace) comes
    (c.new-setting.ensures
    ∙ ap (λ n. setting_of holds_nothing n c.in_ok-share-in-Done.field-0 (before_of c.args.env.now)
    (wide_trace c.in-Done.trace)) c.in_ok-copy-in-Done.ensures
    ∙ ap (λ u. setting_of holds_nothing c.args.name.now u (before_of c.args.env.now) (wide_trace c.in-Done.trace))
    c.in_ok-share-in-Done.ensures)
    c.in_ok-add_done-in-Done.ensures.joined c.in_ok-add_done-in-Done.ensures.settings
    (rw c.in_ok-spend_on.ensures.env at c.in_ok-add_done-in-Done.ensures.names)
    (counted_done c.in_ok-spend_on.field-0 c.in-Done.trace c.args.steps.now c.spend_on.new.steps
    (c.args.left - c.args.self.now.joined.cost) c.in_ok-spend_on.ensures.counted c.in-Done.is)
