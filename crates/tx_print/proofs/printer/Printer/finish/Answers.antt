use Rattle.tx_print.proofs.Adding.{ends_badly, ends_well}
use Rattle.tx_print.proofs.printer.Printer.finish.Goals as goal

pub returns-then-self : goal.returns-then-self
returns-then-self g c = ends_badly _ _ _ c.flush.ensures.adds c.if-self.true

pub returns : goal.returns
returns g c = ends_well _ _ c.flush.ensures.adds c.if-self.false (c.flush.ensures.empty c.if-self.false)
