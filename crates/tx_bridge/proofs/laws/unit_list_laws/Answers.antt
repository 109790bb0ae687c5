use Rattle.tx_bridge.proofs.Settling.{changed_once}
use Rattle.tx_bridge.proofs.Listed.{units_are, units_stand, bodies_same}
use Rattle.tx_bridge.proofs.laws.unit_list_laws.Goals as goal

pub returns : goal.returns
returns c = record {
  units = units_are c.body_laws.ensures.stand c.body_laws.ensures.apart;
  stand = units_stand c.body_laws.ensures.stand c.body_laws.ensures.apart;
  once = changed_once;
  same = bodies_same;
}
