use Rattle.std.proofs.Common.{◌≡◌, ◌≤◌, length, take}
use Rattle.std.specs.Prelude.{option_copied}
use Rattle.tx_unit_layout.specs.Stretches.{part_or_root}
use Rattle.tx_view.specs.Marks.{last_of}
use Rattle.tx_view.proofs.Finding.{marks_on}
use Rattle.tx_view.proofs.marks.last_on.Given as goal

abbrev pub invariant-loop-end : goal.invariant-loop-end
invariant-loop-end l = record {
  within : l.end ≤ length l.lines;
  last : last_of (marks_on (part_or_root (option_copied l.part)) l.lines)
      ≡ last_of (marks_on (part_or_root (option_copied l.part)) (take l.end l.lines));
}

abbrev pub decreases-loop-end : goal.decreases-loop-end
decreases-loop-end l = l.end
