use Rattle.std.proofs.Common.{◌≡◌, take}
use Rattle.std.specs.List.{flat_map}
use Rattle.tx_view_form.specs.Stops.{unit_stops}
use Rattle.tx_view.specs.Marks.{spot_places}
use Rattle.tx_view.specs.Units.{unit_views}
use Rattle.tx_view.proofs.spots.spots_of.Given as goal

abbrev pub invariant-loop-unit : goal.invariant-loop-unit
invariant-loop-unit l = spot_places l.spots.items ≡ flat_map unit_stops (unit_views (take l.unit-index l.units))
