use Rattle.tx_parts.proofs.Holding.{costs_fewer}
use Rattle.tx_parts.proofs.Costing.{all_cost, all_cost_in, closed_costs}
use Rattle.tx_parts.proofs.Staying.{costs_stay}
use Rattle.tx_parts.proofs.shell_laws.opened_cost_law.Goals as goal

pub returns : goal.returns
returns c = record {
  tree = all_cost;
  inside = all_cost_in;
  nothing = closed_costs;
  fewer = λ held more sheller both. costs_fewer held more both sheller;
  again = costs_stay;
}
