use Rattle.tx_bridge.proofs.KeptInPlace.{kept_in_place}
use Rattle.tx_bridge.proofs.laws.staying_parts_law.Goals as goal

pub returns : goal.returns
returns c = kept_in_place c.carried_law.ensures
