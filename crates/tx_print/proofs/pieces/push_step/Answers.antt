use Rattle.tx_print.proofs.Adding.{adds_then}
use Rattle.tx_print.proofs.pieces.push_step.Goals as goal

pub returns : goal.returns
returns g c = adds_then c.push.ensures c.push_number.ensures
