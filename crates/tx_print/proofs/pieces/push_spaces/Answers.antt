use Rattle.std.proofs.lemmas.List.{replicate-append-replicate}
use Rattle.tx_print.proofs.Adding.{adds_then, adds_also}
use Rattle.tx_print.proofs.pieces.push_spaces.Goals as goal

pub loop-preserved : goal.loop-preserved
loop-preserved g c =
    adds_also (replicate-append-replicate c.loop.counter 1 32) (adds_then c.loop.invariant c.push.ensures)
