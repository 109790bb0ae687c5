use Rattle.tx_mod.proofs.Formed.{stays_well_formed}
use Rattle.tx_mod.proofs.laws.well_formed_law.Goals as goal

pub returns : goal.returns
returns c = λ m t. stays_well_formed m t
