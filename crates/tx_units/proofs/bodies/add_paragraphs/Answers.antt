use Rattle.std.proofs.Common.{◌++◌, ◌∷◌, [], ap, ◌∙◌}
use Rattle.tx_units.specs.Units.{body_unit}
use Rattle.tx_units.proofs.Numbering.{numbered_next}
use Rattle.tx_units.proofs.bodies.add_paragraphs.Goals as goal

pub loop-i-preserved : goal.loop-i-preserved
loop-i-preserved c =
    let one = c.of_body.ensures ∙ ap (λ t. body_unit t c.in_ok-own.own) c.in_ok-share.ensures
    ∙ ap (body_unit c.index-paragraphs-i.result) c.in_ok-own.ensures in
    numbered_next c.args.path.now c.children-paragraphs.result.now c.loop-i.i c.index-paragraphs-i.result _ _ _
    c.loop-i-test.true
    c.index-paragraphs-i.is c.loop-i.invariant
    (c.in_ok-push.ensures.items ∙ ap (λ u. c.loop-i.units.items ++ u ∷ []) one)
