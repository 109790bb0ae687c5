use Rattle.tx_bridge.proofs.CarriedInPlace.{parts_in_place, strays_in_place}
use Rattle.tx_bridge.proofs.carry_laws.in_place_law.Goals as goal

pub returns : goal.returns
returns c = record { parts = parts_in_place; strays = strays_in_place }
