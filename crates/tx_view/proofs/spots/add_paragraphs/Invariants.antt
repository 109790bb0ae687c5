use Rattle.std.proofs.Common.{◌≡◌, ◌++◌, take}
use Rattle.std.specs.Prelude.{option_copied}
use Rattle.tx_unit_layout.specs.Stretches.{part_or_root}
use Rattle.tx_view.specs.Marks.{stops_on, spot_places}
use Rattle.tx_view.proofs.Finding.{marks_within}
use Rattle.tx_view.proofs.spots.add_paragraphs.Given as goal

abbrev pub invariant-loop-paragraph : goal.invariant-loop-paragraph
invariant-loop-paragraph l =
    spot_places l.spots.items ≡ spot_places l.fn.spots.items
    ++ stops_on l.path (marks_within (part_or_root (option_copied l.part)) (take l.paragraph-index l.paragraphs))
