use Rattle.tx_bridge.proofs.KeptPlaces.{places_stay}
use Rattle.tx_bridge.proofs.laws.keeping_law.Goals as goal

pub returns : goal.returns
returns c = places_stay
