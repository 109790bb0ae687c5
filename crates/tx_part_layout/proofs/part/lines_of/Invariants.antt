use Rattle.std.proofs.Common.{◌≡◌, ◌+◌, take}
use Rattle.tx_view_form.specs.Views.{AreLines}
use Rattle.tx_part_layout.specs.LaidParts.{items_in}
use Rattle.tx_part_layout.proofs.part.lines_of.Given as goal

abbrev pub invariant-loop-paragraph : goal.invariant-loop-paragraph
invariant-loop-paragraph g l = record {
  lines : AreLines l.width (take l.paragraph-index l.paragraphs) l.all.items;
  counted : l.steps ≡ l.fn.steps + items_in (take l.paragraph-index l.paragraphs);
}
