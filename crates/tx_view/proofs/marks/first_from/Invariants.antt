use Rattle.std.proofs.Common.{◌≡◌, drop}
use Rattle.tx_unit_layout.specs.Stretches.{stretches}
use Rattle.tx_view.specs.Marks.{first_of}
use Rattle.tx_view.proofs.Finding.{marks_in}
use Rattle.tx_view.proofs.marks.first_from.Given as goal

abbrev pub invariant-loop-i : goal.invariant-loop-i
invariant-loop-i l =
    first_of (marks_in (drop l.k (stretches l.shown))) ≡ first_of (marks_in (drop l.i (stretches l.shown)))
