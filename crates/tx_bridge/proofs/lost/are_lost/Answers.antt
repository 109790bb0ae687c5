use Rattle.std.proofs.Common.{arith, refl}
use Rattle.tx_bridge.proofs.Losing.{lost_more}
use Rattle.tx_bridge.proofs.lost.are_lost.Goals as goal

pub loop-place-preserved : goal.loop-place-preserved
loop-place-preserved c =
    lost_more c.args.mods.now c.args.places.now c.loop-place.place-index c.place-item.result c.loop-place.invariant
    (omega arith) c.place-item.is (c.if-not-is_lost.ensures refl)
