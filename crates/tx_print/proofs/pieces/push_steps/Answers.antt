use Rattle.std.proofs.Common.{◌∷◌, ◌∙◌, sym, ap, take}
use Rattle.std.specs.Prelude.{decimal}
use Rattle.std.specs.List.{flat_map}
use Rattle.std.proofs.lemmas.List.{take_more}
use Rattle.tx_print.proofs.Adding.{adds_then, adds_also}
use Rattle.tx_print.proofs.Wording.{flat_more}
use Rattle.tx_print.proofs.pieces.push_steps.Goals as goal

pub loop-number-preserved : goal.loop-number-preserved
loop-number-preserved g c =
    let numbers = c.args.steps.now in
    let i = c.loop-number.number-index in
    adds_also (flat_more (λ i. 47 ∷ decimal i) (take i numbers) _
    ∙ ap (flat_map (λ i. 47 ∷ decimal i)) (sym (take_more numbers i 0 c.loop-number-test.true)))
    (adds_then c.loop-number.invariant c.push_step.ensures)
