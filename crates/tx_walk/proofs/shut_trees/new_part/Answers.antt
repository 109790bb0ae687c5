use Rattle.std.proofs.Common.{ap, refl, sym, true, ◌∙◌, ◌+◌}
use Rattle.std.proofs.lemmas.Result.{IfOk-weaker}
use Rattle.std.specs.Option.{option_map}
use Rattle.std.specs.Prelude.{Some}
use Rattle.tx_exec.specs.States.{before_of}
use Rattle.tx_exec.specs.Outcomes.{wide_outcome}
use Rattle.tx_exec_form.specs.Evaluated.{evaluated_in, paid}
use Rattle.tx_walk.specs.Steps.{trace_under}
use Rattle.tx_walk.proofs.Behind.{comes_over, comes_done}
use Rattle.tx_walk.proofs.Settled.{new_pushed, any_ok, pushed_ok}
use Rattle.tx_walk.proofs.shut_trees.new_part.Goals as goal

pub returns-in-Over-clause-exact : goal.returns-in-Over-clause-exact
returns-in-Over-clause-exact g c =
    sym (ap (option_map (trace_under c.args.path))
    (comes_over c.in_ok-spend_on.field-0 _ (c.in_ok-spend_on.ensures.exact ∙ ap (λ p. evaluated_in c.args.levels
    c.args.left (record {
      tree = c.args.t.now;
      at = Some p;
    }) (before_of c.args.env.now)) c.root.ensures) c.in-Over.is))

pub returns-in-Over-clause-counted : goal.returns-in-Over-clause-counted
returns-in-Over-clause-counted g c =
    c.in_ok-spend_on.ensures.counted
    ∙ ap (λ o. c.args.steps.now + paid c.args.left o) (c.in_ok-spend_on.ensures.exact ∙ ap (λ p. evaluated_in
    c.args.levels c.args.left (record {
      tree = c.args.t.now;
      at = Some p;
    }) (before_of c.args.env.now)) c.root.ensures)

pub returns-in_ok-placed-in-Done-clause-exact : goal.returns-in_ok-placed-in-Done-clause-exact
returns-in_ok-placed-in-Done-clause-exact g c =
    let comes = comes_done c.in_ok-spend_on.field-0 c.in-Done.trace _ (c.in_ok-spend_on.ensures.exact ∙ ap (λ p.
    evaluated_in c.args.levels c.args.left (record {
      tree = c.args.t.now;
      at = Some p;
    }) (before_of c.args.env.now)) c.root.ensures) c.in-Done.is
    in
    IfOk-weaker c.settle.result _ _ (λ o h. h ∙ sym (ap (option_map (trace_under c.args.path)) comes))
    c.settle.ensures.comes

pub returns-in_ok-placed-in-Done-clause-pushed : goal.returns-in_ok-placed-in-Done-clause-pushed
returns-in_ok-placed-in-Done-clause-pushed g c =
    let comes = comes_done c.in_ok-spend_on.field-0 c.in-Done.trace _ (c.in_ok-spend_on.ensures.exact ∙ ap (λ p.
    evaluated_in c.args.levels c.args.left (record {
      tree = c.args.t.now;
      at = Some p;
    }) (before_of c.args.env.now)) c.root.ensures) c.in-Done.is
    in
    pushed_ok c.settle.result _ _
    (λ h o. new_pushed c.args.levels c.args.left c.args.path c.args.t.now (before_of c.args.env.now)
    c.args.done.now.items c.settle.new.done.items
    (record {
      path = c.args.path;
      trace = c.in-Done.trace;
      renewed = true;
      placed = Some c.in_ok-placed-in-Done.placed;
    }) (wide_outcome o) comes refl refl h)
    c.settle.ensures.pushed

pub returns-in_ok-placed-in-Done-clause-counted : goal.returns-in_ok-placed-in-Done-clause-counted
returns-in_ok-placed-in-Done-clause-counted g c =
    any_ok c.settle.result _ (c.in_ok-spend_on.ensures.counted
    ∙ ap (λ o. c.args.steps.now + paid c.args.left o) (c.in_ok-spend_on.ensures.exact ∙ ap (λ p. evaluated_in
    c.args.levels c.args.left (record {
      tree = c.args.t.now;
      at = Some p;
    }) (before_of c.args.env.now)) c.root.ensures))
