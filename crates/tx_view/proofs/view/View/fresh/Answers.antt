use Rattle.tx_view.proofs.Holding.{kept_holds}
use Rattle.tx_view.proofs.view.View.fresh.Goals as goal

pub returns-clause-holds : goal.returns-clause-holds
returns-clause-holds c =
    kept_holds c.self.inside c.args.self.now c.self.view_is c.self.invariant c.outcome-kept.ensures.holds
    c.outcome-kept.ensures.parts_hold c.outcome-kept.ensures.strays_hold
