use Rattle.std.proofs.Common.{Some, ap, ◌∙◌}
use Rattle.std.specs.declared.rc.Rc.{Rc}
use Rattle.tx_part_layout.specs.declared.laid.PlacedPart.{PlacedPart}
use Rattle.tx_part_layout.proofs.part.new_slot.Goals as goal

pub returns : goal.returns
returns c = λ old. record {
  between = λ j. record {};
  part = c.in_ok-placed.placed;
  there = ap Some c.in_ok-new.ensures.ok;
  path_is = c.in_ok-placed.ensures.path ∙ c.in_ok-path.ensures;
  above_is = c.in_ok-placed.ensures.above;
  laid_is = ap (λ r. r.value) c.in_ok-placed.ensures.laid;
}
