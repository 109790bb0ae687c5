use Rattle.tx_bridge.proofs.Spared.{fresh_stays, staying_charged, layers_free}
use Rattle.tx_bridge.proofs.HeldLayers.{charged_nothing}
use Rattle.tx_bridge.proofs.laws.staying_law.Goals as goal

pub returns : goal.returns
returns c = record {
  stays =
      fresh_stays c.trace_laws.ensures.supports c.trace_laws.ensures.allowed c.trace_laws.ensures.agrees
      c.opened_fitting_law.ensures.same_stored c.opened_fitting_law.ensures.all_traced
      c.opened_standing_law.ensures.distinct;
  layers = staying_charged c.opened_standing_law.ensures.distinct;
  again =
      charged_nothing c.trace_laws.ensures.supports c.trace_laws.ensures.allowed c.trace_laws.ensures.agrees
      c.opened_fitting_law.ensures.same_stored c.opened_fitting_law.ensures.all_traced
      c.opened_standing_law.ensures.distinct c.opened_cost_law.ensures.again c.opened_cost_law.ensures.fewer;
  nothing = λ held m e. layers_free c.opened_cost_law.ensures.nothing held m e.unit;
}
