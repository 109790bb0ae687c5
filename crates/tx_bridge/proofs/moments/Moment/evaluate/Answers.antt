use Rattle.std.proofs.Common.{◌≤◌, sym, ap, subst, ◌∙◌}
use Rattle.tx_origin.specs.TaggedTrees.{tagged_of}
use Rattle.tx_exec.specs.Outcomes.{wide_outcome}
use Rattle.tx_view_form.specs.Outcomes.{Moment, charge, behind}
use Rattle.tx_bridge.proofs.Used.{charge_fits}
use Rattle.tx_bridge.proofs.Paying.{paid_for}
use Rattle.tx_bridge.proofs.moments.Moment.evaluate.Goals as goal

pub go_behind-requires-clause-enough : goal.go_behind-requires-clause-enough
go_behind-requires-clause-enough g c =
    subst (λ (m : Moment). charge m (wide_outcome c.in_ok-outcome.outcome) ≤ m.left)
    (sym c.in_ok-outcome.ensures.stays)
    (charge_fits c.trace_laws.ensures.allowed c.args.self.now (wide_outcome c.in_ok-outcome.outcome)
    (tagged_of c.args.t.now) c.in_ok-outcome.ensures.exact)

pub returns-clause-paid : goal.returns-clause-paid
returns-clause-paid g c =
    paid_for c.size_law.ensures c.trace_laws.ensures.allowed c.args.self.now c.go_behind.new.self
    (tagged_of c.args.t.now) (wide_outcome c.in_ok-outcome.outcome) c.in_ok-value.value c.in_ok-outcome.ensures.exact
    c.in_ok-value.ensures
    (c.in_ok-go_behind.ensures.behind
    ∙ ap (λ (m : Moment). behind m (wide_outcome c.in_ok-outcome.outcome)) c.in_ok-outcome.ensures.stays)
