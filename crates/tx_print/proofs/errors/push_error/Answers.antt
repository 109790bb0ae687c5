use Rattle.tx_print.proofs.Adding.{adds_then}
use Rattle.tx_print.proofs.errors.push_error.Goals as goal

pub returns : goal.returns
returns g c =
    let kind = adds_then c.push.ensures c.push_shown.ensures in
    adds_then (adds_then (adds_then c.push_unit.ensures kind) c.push_detail.ensures) c.push-2.ensures
