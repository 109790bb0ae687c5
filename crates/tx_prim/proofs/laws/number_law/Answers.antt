use Rattle.tx_prim.proofs.Printing.{number_read}
use Rattle.tx_prim.proofs.laws.number_law.Goals as goal

pub returns : goal.returns
returns c = number_read
