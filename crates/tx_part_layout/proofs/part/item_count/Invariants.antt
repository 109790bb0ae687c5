use Rattle.std.proofs.Common.{◌≡◌, take}
use Rattle.tx_part_layout.specs.LaidParts.{items_in}
use Rattle.tx_part_layout.proofs.part.item_count.Given as goal

abbrev pub invariant-loop-paragraph : goal.invariant-loop-paragraph
invariant-loop-paragraph l = l.count ≡ items_in (take l.paragraph-index l.paragraphs)
