use Rattle.tx_print.proofs.Adding.{printed}
use Rattle.tx_print.proofs.pages.print_page.Goals as goal

pub returns : goal.returns
returns g c =
    printed c.new-printer.ensures.waiting c.new-printer.ensures.failed c.push_numbered_page.ensures c.finish.ensures
