use Rattle.std.proofs.Common.{length, ap}
use Rattle.tx_print.proofs.Adding.{adds_then, adds_also}
use Rattle.tx_print.proofs.Wording.{shown_counts}
use Rattle.tx_print.proofs.pages.push_counts.Goals as goal

pub returns : goal.returns
returns g c =
    adds_also (shown_counts (length c.pages.result.now) c.rows.result _ _ (ap length c.pages.ensures) c.rows.ensures)
    (adds_then (adds_then c.push.ensures c.push_number.ensures) c.push_numbered.ensures)
