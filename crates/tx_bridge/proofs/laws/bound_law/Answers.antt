use Rattle.tx_bridge.specs.Moments.{beginning_with}
use Rattle.tx_bridge.specs.Names.{ChargeBy, BoundBy}
use Rattle.tx_bridge.proofs.Bounding.{charged_most}
use Rattle.tx_bridge.proofs.laws.bound_law.Goals as goal

pub returns : goal.returns
unfolding ChargeBy BoundBy
returns c = λ start sheller sound kept parts layers spares units.
    charged_most c.opened_cost_law.ensures.fewer sheller sound (beginning_with start) kept parts layers spares
    units.placed
