use Rattle.std.proofs.Common.{◌≤◌, sym, ap, subst, ◌∙◌}
use Rattle.tx_origin.specs.TaggedTrees.{tagged_of}
use Rattle.tx_view_form.specs.Outcomes.{Moment, charge, behind}
use Rattle.tx_unit_traces.proofs.Paying.{charge_fits, paid_for}
use Rattle.tx_unit_traces.proofs.moments.Moment.evaluate.Goals as goal

pub go_past-requires : goal.go_past-requires
go_past-requires g c = record {
  enough =
      subst (λ (m : Moment). charge m c.in_ok-trace.trace ≤ m.left)
      (sym c.in_ok-trace.ensures.stays)
      (charge_fits c.trace_laws.ensures.allowed c.args.self.now c.in_ok-trace.trace
      (tagged_of c.args.t.now) c.in_ok-trace.ensures.exact);
}

pub returns-clause-paid : goal.returns-clause-paid
returns-clause-paid g c =
    paid_for c.size_law.ensures c.trace_laws.ensures.allowed c.args.self.now c.go_past.new.self
    (tagged_of c.args.t.now) c.in_ok-trace.trace c.in_ok-value.value c.in_ok-trace.ensures.exact
    c.in_ok-value.ensures
    (c.in_ok-go_past.ensures.behind
    ∙ ap (λ (m : Moment). behind m c.in_ok-trace.trace) c.in_ok-trace.ensures.stays)
