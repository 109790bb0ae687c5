use Rattle.tx_exec.specs.Outcomes.{wide_trace}
use Rattle.tx_unit_layout.proofs.DoneParts.{done_there}
use Rattle.tx_unit_layout.proofs.by_parts.done_parts_law.Goals as goal

pub returns-clause-few : goal.returns-clause-few
returns-clause-few c =
    let h = c.requires.fresh in
    (done_there h.0 c.args.unit.now (wide_trace c.args.trace.now) c.args.parts.now c.requires.placed c.requires.body
    h.1 h.2 c.size_law.ensures c.cost_law.ensures c.trace_laws.ensures.allowed).few

pub returns-clause-small : goal.returns-clause-small
returns-clause-small c =
    let h = c.requires.fresh in
    (done_there h.0 c.args.unit.now (wide_trace c.args.trace.now) c.args.parts.now c.requires.placed c.requires.body
    h.1 h.2 c.size_law.ensures c.cost_law.ensures c.trace_laws.ensures.allowed).small

pub returns-clause-whole : goal.returns-clause-whole
returns-clause-whole c =
    let h = c.requires.fresh in
    (done_there h.0 c.args.unit.now (wide_trace c.args.trace.now) c.args.parts.now c.requires.placed c.requires.body
    h.1 h.2 c.size_law.ensures c.cost_law.ensures c.trace_laws.ensures.allowed).whole

pub returns-clause-evaluates : goal.returns-clause-evaluates
returns-clause-evaluates c =
    let h = c.requires.fresh in
    (done_there h.0 c.args.unit.now (wide_trace c.args.trace.now) c.args.parts.now c.requires.placed c.requires.body
    h.1 h.2 c.size_law.ensures c.cost_law.ensures c.trace_laws.ensures.allowed).evaluates
