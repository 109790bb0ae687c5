use Rattle.tx_view.proofs.Stopping.{spot_put}
use Rattle.tx_view.proofs.stops.all_stops.Goals as goal

pub loop-spot-preserved : goal.loop-spot-preserved
loop-spot-preserved c =
    spot_put c.deref-spot-items.result.now c.loop-spot.spot-index c.spot-item.result c.loop-spot.stops.keys
    c.put_spot.new.stops.keys c.loop-spot-test.true c.spot-item.is c.loop-spot.invariant c.in_ok-put_spot.ensures
