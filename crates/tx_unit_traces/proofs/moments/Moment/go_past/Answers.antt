use Rattle.tx_unit_traces.proofs.Paying.{behind_done}
use Rattle.tx_unit_traces.proofs.moments.Moment.go_past.Goals as goal

pub returns-in_ok-set_names-in-Some-clause-behind : goal.returns-in_ok-set_names-in-Some-clause-behind
returns-in_ok-set_names-in-Some-clause-behind c =
    behind_done c.args.self.now c.self.inside.env c.self.inside.left c.args.trace.now c.in-Some.done.now
    c.set_names.new.env c.self.view_is c.in-Some.ensures.is c.in_ok-set_names-in-Some.ensures.map
    c.in-Some.ensures.once
