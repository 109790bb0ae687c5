use Rattle.std.proofs.Common.{sym}
use Rattle.tx_exec.specs.States.{before_of}
use Rattle.tx_exec.specs.Outcomes.{wide_trace}
use Rattle.tx_replay.proofs.FewerLevels.{comes_over, comes_done, counted_done}
use Rattle.tx_replay.proofs.FewerLevels.{over_lower, done_lower, over_below, cost_within, rest_counted}
use Rattle.tx_replay.proofs.evaluating.eval_within.Goals as goal

pub overflow_sub-left : goal.overflow_sub-left
overflow_sub-left g c =
    cost_within 400 c.args.left (record { tree = c.args.t.now; at = c.args.at }) (before_of c.args.env.now) (wide_trace
    c.in-Done.trace)
    (comes_done c.in_ok-eval_at.field-0 c.in-Done.trace _ c.in_ok-eval_at.ensures.exact c.in-Done.is)

pub returns-in-Over-clause-exact : goal.returns-in-Over-clause-exact
returns-in-Over-clause-exact g c =
    sym (over_lower 400 c.args.levels c.args.left (record { tree = c.args.t.now; at = c.args.at }) (before_of
    c.args.env.now) c.requires.levels
    (comes_over c.in_ok-eval_at.field-0 _ c.in_ok-eval_at.ensures.exact
    c.in-Over.is))

pub returns-then-trace-levels-clause-exact : goal.returns-then-trace-levels-clause-exact
returns-then-trace-levels-clause-exact g c =
    sym (over_below 400 c.args.levels c.args.left (record { tree = c.args.t.now; at = c.args.at }) (before_of
    c.args.env.now) (wide_trace c.in-Done.trace)
    (comes_done c.in_ok-eval_at.field-0 c.in-Done.trace _ c.in_ok-eval_at.ensures.exact
    c.in-Done.is) c.if-trace-levels.true)

pub returns-else-trace-levels-clause-exact : goal.returns-else-trace-levels-clause-exact
returns-else-trace-levels-clause-exact g c =
    sym (done_lower 400 c.args.levels c.args.left (record { tree = c.args.t.now; at = c.args.at }) (before_of
    c.args.env.now) (wide_trace c.in-Done.trace)
    (comes_done c.in_ok-eval_at.field-0 c.in-Done.trace _ c.in_ok-eval_at.ensures.exact
    c.in-Done.is) c.if-trace-levels.false)

pub returns-then-trace-levels-clause-counted : goal.returns-then-trace-levels-clause-counted
returns-then-trace-levels-clause-counted g c =
    let comes = comes_done c.in_ok-eval_at.field-0 c.in-Done.trace _ c.in_ok-eval_at.ensures.exact c.in-Done.is in
    rest_counted c.args.steps.now c.eval_at.new.steps c.add.new.self c.args.left c.in-Done.trace.cost
    (counted_done c.in_ok-eval_at.field-0 c.in-Done.trace c.args.steps.now c.eval_at.new.steps c.args.left
    c.in_ok-eval_at.ensures.counted c.in-Done.is)
    (cost_within 400 c.args.left (record { tree = c.args.t.now; at = c.args.at }) (before_of c.args.env.now) (wide_trace
    c.in-Done.trace) comes)
    c.add.ensures
