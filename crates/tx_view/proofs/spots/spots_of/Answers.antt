use Rattle.tx_view.specs.Marks.{spot_places}
use Rattle.tx_view.proofs.Stopping.{unit_added}
use Rattle.tx_view.proofs.spots.spots_of.Goals as goal

pub loop-unit-preserved : goal.loop-unit-preserved
loop-unit-preserved c =
    unit_added c.args.units.now c.loop-unit.unit-index c.unit-item.result (spot_places c.loop-unit.spots.items)
    (spot_places c.add_unit.new.spots.items) c.loop-unit-test.true c.unit-item.is c.loop-unit.invariant
    c.in_ok-add_unit.ensures
