use Rattle.tx_print.proofs.Adding.{printed}
use Rattle.tx_print.proofs.attributes.print_attrs.Goals as goal

pub returns : goal.returns
returns g c =
    printed c.new-printer.ensures.waiting c.new-printer.ensures.failed c.push_attributes.ensures c.finish.ensures
