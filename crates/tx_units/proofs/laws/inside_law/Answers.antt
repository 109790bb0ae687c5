use Rattle.tx_units.proofs.OneUnit.{changes_one}
use Rattle.tx_units.proofs.laws.inside_law.Goals as goal

pub returns : goal.returns
returns c = changes_one
