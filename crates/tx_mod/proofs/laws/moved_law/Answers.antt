use Rattle.tx_mod.proofs.Standing.{stays_place}
use Rattle.tx_mod.proofs.laws.moved_law.Goals as goal

pub returns : goal.returns
returns c = λ m t at. stays_place m t at
