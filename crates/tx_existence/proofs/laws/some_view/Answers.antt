use Rattle.tx_existence.proofs.Viewing.{some_view}
use Rattle.tx_existence.proofs.laws.some_view.Goals as goal

pub returns : goal.returns
returns c = some_view
