use Rattle.std.proofs.Common.{arith}
use Rattle.tx_bridge.proofs.Losing.{none_more}
use Rattle.tx_bridge.proofs.lost.lose.Goals as goal

pub loop-i-preserved : goal.loop-i-preserved
loop-i-preserved c =
    none_more c.args.places.now c.loop-i.places c.loop-i.i c.index-places-i.result c.loop-i.invariant (omega arith)
