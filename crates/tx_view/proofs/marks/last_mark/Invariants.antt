use Rattle.std.proofs.Common.{◌≡◌, ◌≤◌, length, take}
use Rattle.std.specs.Prelude.{option_copied}
use Rattle.tx_unit_layout.specs.Stretches.{part_or_root}
use Rattle.tx_view.specs.Marks.{last_of}
use Rattle.tx_view.proofs.Finding.{marks_under}
use Rattle.tx_view.proofs.marks.last_mark.Given as goal

abbrev pub invariant-loop-end : goal.invariant-loop-end
invariant-loop-end l = record {
  within : l.end ≤ length l.items;
  last : last_of (marks_under (part_or_root (option_copied l.part)) l.items)
      ≡ last_of (marks_under (part_or_root (option_copied l.part)) (take l.end l.items));
}

abbrev pub decreases-loop-end : goal.decreases-loop-end
decreases-loop-end l = l.end
