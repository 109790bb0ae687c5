use Rattle.tx_print.proofs.Adding.{printed}
use Rattle.tx_print.proofs.places.print_place.Goals as goal

pub returns : goal.returns
returns g c =
    printed c.new-printer.ensures.waiting c.new-printer.ensures.failed c.push_place_at.ensures c.finish.ensures
