use Rattle.std.proofs.Common.{◌≡◌, ◌++◌, take}
use Rattle.tx_unit_layout.specs.Stretches.{stretches}
use Rattle.tx_view.specs.Marks.{stops_on, spot_places}
use Rattle.tx_view.proofs.Finding.{all_marks_in}
use Rattle.tx_view.proofs.spots.add_stretches.Given as goal

abbrev pub invariant-loop-i : goal.invariant-loop-i
invariant-loop-i l =
    spot_places l.spots.items ≡ spot_places l.fn.spots.items
    ++ stops_on l.path (all_marks_in (take l.i (stretches l.unit)))
