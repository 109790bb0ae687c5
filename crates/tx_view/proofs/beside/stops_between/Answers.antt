use Rattle.std.proofs.Common.{take, refl, arith}
use Rattle.tx_view.proofs.Middle.{spot_next}
use Rattle.tx_view.proofs.beside.stops_between.Goals as goal

pub loop-i-preserved : goal.loop-i-preserved
loop-i-preserved c =
    spot_next c.args.spots.now (take c.loop-i.i c.args.spots.now) c.args.from c.loop-i.i c.index-spots-i.result
    c.loop-i.stops.items c.add_new.new.stops.items (omega (arith, c.loop-i-test.true, c.requires.within))
    c.index-spots-i.is refl c.loop-i.invariant c.in_ok-add_new.ensures
