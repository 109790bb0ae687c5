use Rattle.tx_commute.proofs.LeftOut.{leaves_out}
use Rattle.tx_commute.proofs.laws.leave_law.Goals as goal

pub returns : goal.returns
returns c = λ t present out edit mods later. leaves_out t present out edit mods later
