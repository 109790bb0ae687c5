use Rattle.tx_print.proofs.Adding.{adds_then, adds_also}
use Rattle.tx_print.proofs.Wording.{base_text, spot_text}
use Rattle.tx_print.proofs.places.push_spot.Goals as goal

pub returns-in-Some : goal.returns-in-Some
returns-in-Some g c =
    adds_also (spot_text c.args.spot.now _ _ _ c.base.ensures c.in-Some.ensures c.offset.ensures)
    (adds_then (adds_then c.push_base.ensures c.push_origin.ensures) c.push_offset.ensures)

pub returns-in-None : goal.returns-in-None
returns-in-None g c =
    adds_also (base_text c.args.spot.now _ _ c.base.ensures c.in-None.ensures c.offset-in-None.ensures)
    (adds_then c.push_base.ensures c.push_offset-in-None.ensures)
