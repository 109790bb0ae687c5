use Rattle.std.proofs.Common.{◌≡◌, ◌++◌, take}
use Rattle.tx_view_form.specs.Stops.{each_once}
use Rattle.tx_view.specs.Marks.{spot_places}
use Rattle.tx_view.proofs.beside.stops_between.Given as goal

abbrev pub invariant-loop-i : goal.invariant-loop-i
invariant-loop-i l =
    each_once (take l.i (spot_places l.spots)) ≡ each_once (take l.from (spot_places l.spots)) ++ l.stops.items
