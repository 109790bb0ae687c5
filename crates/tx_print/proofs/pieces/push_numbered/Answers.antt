use Rattle.tx_print.proofs.Adding.{adds_then}
use Rattle.tx_print.proofs.pieces.push_numbered.Goals as goal

pub returns : goal.returns
returns g c = adds_then (adds_then c.push.ensures c.push_number.ensures) c.push-2.ensures
