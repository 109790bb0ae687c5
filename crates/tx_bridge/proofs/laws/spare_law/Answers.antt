use Rattle.tx_bridge.proofs.HeldLayers.{spare_nothing}
use Rattle.tx_bridge.proofs.Spared.{nothing_charged, spare_free, spare_layers}
use Rattle.tx_bridge.proofs.laws.spare_law.Goals as goal

pub returns : goal.returns
returns c = record {
  nothing = nothing_charged c.opened_cost_law.ensures.nothing;
  whole =
      spare_free c.trace_laws.ensures.supports c.trace_laws.ensures.allowed c.trace_laws.ensures.agrees
      c.opened_fitting_law.ensures.same_stored c.opened_fitting_law.ensures.all_traced
      c.opened_standing_law.ensures.distinct c.opened_cost_law.ensures.nothing c.opener_law.ensures.closed;
  layers =
      spare_layers c.trace_laws.ensures.supports c.trace_laws.ensures.allowed c.trace_laws.ensures.agrees
      c.opened_fitting_law.ensures.same_stored c.opened_fitting_law.ensures.all_traced
      c.opened_standing_law.ensures.distinct;
  again =
      spare_nothing c.trace_laws.ensures.supports c.trace_laws.ensures.allowed c.trace_laws.ensures.agrees
      c.opened_fitting_law.ensures.same_stored c.opened_fitting_law.ensures.all_traced
      c.opened_standing_law.ensures.distinct c.opened_cost_law.ensures.again c.opened_cost_law.ensures.fewer;
}
