use Rattle.std.proofs.Common.{◌≡◌, take}
use Rattle.tx_view_form.specs.Stops.{each_once}
use Rattle.tx_view.specs.Marks.{spot_places}
use Rattle.tx_view.proofs.stops.all_stops.Given as goal

abbrev pub invariant-loop-spot : goal.invariant-loop-spot
invariant-loop-spot l = l.stops.keys ≡ each_once (spot_places (take l.spot-index l.spot-items))
