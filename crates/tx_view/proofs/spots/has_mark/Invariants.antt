use Rattle.std.proofs.Common.{◌≡◌, drop}
use Rattle.tx_unit_layout.specs.Stretches.{stretches}
use Rattle.tx_view.proofs.Finding.{all_marks_in}
use Rattle.tx_view.proofs.Stopping.{have_some}
use Rattle.tx_view.proofs.spots.has_mark.Given as goal

abbrev pub invariant-loop-i : goal.invariant-loop-i
invariant-loop-i l =
    have_some (all_marks_in (stretches l.unit)) ≡ have_some (all_marks_in (drop l.i (stretches l.unit)))
