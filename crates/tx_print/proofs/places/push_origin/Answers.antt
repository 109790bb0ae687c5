use Rattle.std.proofs.Common.{◌∷◌}
use Rattle.std.specs.Prelude.{decimal}
use Rattle.tx_print.proofs.Adding.{adds_then, adds_also}
use Rattle.tx_print.proofs.Ranges.{take_text}
use Rattle.tx_print.proofs.places.push_origin.Goals as goal

pub loop-i-preserved : goal.loop-i-preserved
loop-i-preserved g c =
    adds_also (take_text (λ n. 47 ∷ decimal n) c.args.origin.now c.loop-i.i)
    (adds_then c.loop-i.invariant c.push_step_at.ensures)
