use Rattle.tx_print.proofs.Adding.{adds_then, adds_also}
use Rattle.tx_print.proofs.Wording.{no_cell_words}
use Rattle.tx_print.proofs.places.push_no_cell.Goals as goal

pub returns : goal.returns
returns g c =
    adds_also (no_cell_words c.rows.result c.width.result _ _ c.rows.ensures c.width.ensures)
    (adds_then (adds_then c.push.ensures c.push_number.ensures) c.push_numbered.ensures)
