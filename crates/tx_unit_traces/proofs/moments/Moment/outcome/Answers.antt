use Rattle.std.proofs.Common.{◌+◌, ap, ◌∙◌}
use Rattle.tx_origin.specs.TaggedTrees.{tagged_of}
use Rattle.tx_exec.specs.Outcomes.{wide_outcome}
use Rattle.tx_unit_traces.proofs.Paying.{outcome_at, charge_at}
use Rattle.tx_unit_traces.proofs.moments.Moment.outcome.Goals as goal

pub returns-clause-exact : goal.returns-clause-exact
returns-clause-exact g c =
    c.in_ok-trace.ensures
    ∙ outcome_at (tagged_of c.args.t.now) c.args.self.now c.self.inside.env c.self.inside.left c.min-allowance.result
    (wide_outcome c.in_ok-outcome.outcome) c.self.view_is c.min-allowance.ensures c.in_ok-outcome.ensures.exact

pub returns-clause-counted : goal.returns-clause-counted
returns-clause-counted g c =
    c.in_ok-outcome.ensures.counted
    ∙ ap (λ k. c.args.steps.now + k)
    (charge_at (tagged_of c.args.t.now) c.args.self.now c.self.inside.env c.self.inside.left c.min-allowance.result
    (wide_outcome c.in_ok-outcome.outcome) c.self.view_is c.min-allowance.ensures c.in_ok-outcome.ensures.exact)
