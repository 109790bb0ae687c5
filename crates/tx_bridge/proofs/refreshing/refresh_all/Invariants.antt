use Rattle.tx_parts.specs.Opening.{shells_by}
use Rattle.tx_bridge.specs.Lent.{spares_in}
use Rattle.tx_bridge.proofs.Partway.{Partway}
use Rattle.tx_bridge.proofs.refreshing.refresh_all.Given as goal

abbrev pub invariant-loop-i : goal.invariant-loop-i
invariant-loop-i g l = Partway (shells_by (g.O.Opener.opens l.opener)) l.fn.bridges l.bridges
    (spares_in l.spare) l.fn.moment l.i l.moment l.still l.fn.steps
    l.steps l.charges
