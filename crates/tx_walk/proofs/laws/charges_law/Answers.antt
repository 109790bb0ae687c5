use Rattle.tx_walk.proofs.Charging.{charges_within}
use Rattle.tx_walk.proofs.laws.charges_law.Goals as goal

pub returns : goal.returns
returns c = charges_within
