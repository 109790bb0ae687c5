use Rattle.tx_prim.proofs.Sames.{same_iff}
use Rattle.tx_prim.proofs.laws.sameness_law.Goals as goal

pub returns : goal.returns
returns c = same_iff
