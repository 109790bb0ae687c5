use Rattle.tx_unit_traces.proofs.Carried.{all_carried, all_kept, units_taken, paragraphs_agree}
use Rattle.tx_kept.specs.Carrying.{carry}
use Rattle.tx_unit_traces.specs.Carrying.{whole_of}
use Rattle.tx_unit_traces.specs.Units.{units_of}
use Rattle.tx_unit_traces.proofs.laws.carried_units_law.Goals as goal

pub returns : goal.returns
returns c = record {
  document = λ ms t u old new made are placed stand stand_now.
      all_carried c.sameness_law.ensures t old are ms u (c.carried_list_law.ensures.same ms t) made stand 0 new placed
      stand_now;
  other = λ t old new are placed same.
      all_kept c.sameness_law.ensures t old are 0 new placed (paragraphs_agree (units_of old) new are.apart same);
  units = λ ms t old new. units_taken (carry ms t (whole_of old)) old 0 new;
}
