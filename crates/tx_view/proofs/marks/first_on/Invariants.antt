use Rattle.std.proofs.Common.{◌≡◌, drop}
use Rattle.std.specs.Prelude.{option_copied}
use Rattle.tx_unit_layout.specs.Stretches.{part_or_root}
use Rattle.tx_view.specs.Marks.{first_of}
use Rattle.tx_view.proofs.Finding.{marks_on}
use Rattle.tx_view.proofs.marks.first_on.Given as goal

abbrev pub invariant-loop-line : goal.invariant-loop-line
invariant-loop-line l =
    first_of (marks_on (part_or_root (option_copied l.part)) l.lines)
    ≡ first_of (marks_on (part_or_root (option_copied l.part)) (drop l.line-index l.lines))
