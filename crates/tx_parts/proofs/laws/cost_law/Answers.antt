use Rattle.tx_parts.proofs.Costing.{parts_cost}
use Rattle.tx_parts.proofs.laws.cost_law.Goals as goal

pub returns : goal.returns
returns c = parts_cost
