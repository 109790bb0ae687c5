use Rattle.tx_scm.proofs.Fronts.{front_closes, front_stands}
use Rattle.tx_scm.proofs.laws.scan_goes_on_along_fronts.Goals as goal

pub returns-clause-closed : goal.returns-clause-closed
returns-clause-closed c = front_closes

pub returns-clause-stopped : goal.returns-clause-stopped
returns-clause-stopped c = front_stands
