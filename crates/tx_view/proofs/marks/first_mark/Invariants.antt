use Rattle.std.proofs.Common.{◌≡◌, drop}
use Rattle.std.specs.Prelude.{option_copied}
use Rattle.tx_unit_layout.specs.Stretches.{part_or_root}
use Rattle.tx_view.specs.Marks.{first_of}
use Rattle.tx_view.proofs.Finding.{marks_under}
use Rattle.tx_view.proofs.marks.first_mark.Given as goal

abbrev pub invariant-loop-item : goal.invariant-loop-item
invariant-loop-item l =
    first_of (marks_under (part_or_root (option_copied l.part)) l.items)
    ≡ first_of (marks_under (part_or_root (option_copied l.part)) (drop l.item-index l.items))
