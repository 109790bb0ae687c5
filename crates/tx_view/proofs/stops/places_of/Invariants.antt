use Rattle.std.proofs.Common.{◌≡◌, take}
use Rattle.tx_view.proofs.stops.places_of.Given as goal

abbrev pub invariant-loop-stop : goal.invariant-loop-stop
invariant-loop-stop l = l.places.items ≡ take l.stop-index l.stops
