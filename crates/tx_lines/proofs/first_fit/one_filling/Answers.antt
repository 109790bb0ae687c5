use Rattle.tx_lines.proofs.Filling.{one_way}
use Rattle.tx_lines.proofs.first_fit.one_filling.Goals as goal

pub returns : goal.returns
returns c = one_way
