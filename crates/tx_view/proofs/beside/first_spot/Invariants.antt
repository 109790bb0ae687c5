use Rattle.std.proofs.Common.{◌≡◌, false, take}
use Rattle.std.specs.List.{list_any}
use Rattle.tx_tree.specs.SamePlaces.{same_place}
use Rattle.tx_view.specs.Marks.{spot_places}
use Rattle.tx_view.proofs.beside.first_spot.Given as goal

abbrev pub invariant-loop-i : goal.invariant-loop-i
invariant-loop-i l = list_any (same_place l.at) (take l.i (spot_places l.spots)) ≡ false
