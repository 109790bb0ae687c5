use Rattle.tx_lines.proofs.SomeFilling.{some_way}
use Rattle.tx_lines.proofs.first_fit.some_filling.Goals as goal

pub returns : goal.returns
returns c = some_way
