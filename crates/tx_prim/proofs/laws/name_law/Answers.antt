use Rattle.tx_prim.proofs.Naming.{found}
use Rattle.tx_prim.proofs.laws.name_law.Goals as goal

pub returns : goal.returns
returns c = found
