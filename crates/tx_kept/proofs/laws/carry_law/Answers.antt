use Rattle.tx_kept.proofs.Carried.{carry_order, carry_lead, carry_same}
use Rattle.tx_kept.proofs.laws.carry_law.Goals as goal

pub returns : goal.returns
returns g c = record {
  same = λ ms t u xs h leads. carry_same ms t u xs h leads;
  lead = λ ms t u xs h leads. carry_lead ms t u h xs leads;
  order = λ ms t u xs h leads o. carry_order ms t u h xs leads o;
}
