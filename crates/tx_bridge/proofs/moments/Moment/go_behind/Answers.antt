use Rattle.tx_bridge.proofs.Paying.{behind_done}
use Rattle.tx_bridge.proofs.moments.Moment.go_behind.Goals as goal

pub returns-in_ok-set_names-in-Done-clause-behind : goal.returns-in_ok-set_names-in-Done-clause-behind
returns-in_ok-set_names-in-Done-clause-behind c =
    behind_done c.args.self.now c.self.inside.env c.self.inside.left c.args.outcome.now c.in-Done.trace
    c.set_names.new.env c.self.view_is c.in-Done.is c.in_ok-set_names-in-Done.ensures.map c.requires.once
