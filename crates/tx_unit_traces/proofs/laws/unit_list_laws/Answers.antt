use Rattle.tx_unit_traces.proofs.Listed.{units_are, units_stand, paragraphs_are}
use Rattle.tx_unit_traces.proofs.laws.unit_list_laws.Goals as goal

pub returns : goal.returns
returns c = record {
  units = units_are c.body_laws.ensures.stand;
  stand = units_stand c.body_laws.ensures.stand;
  paragraphs = paragraphs_are c.body_laws.ensures.stand;
}
