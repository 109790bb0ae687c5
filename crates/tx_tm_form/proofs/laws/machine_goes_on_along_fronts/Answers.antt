use Rattle.tx_tm_form.proofs.Closing.{goes_on_is_front}
use Rattle.tx_tm_form.proofs.Stops.{front_goes_on}
use Rattle.tx_tm_form.proofs.laws.machine_goes_on_along_fronts.Goals as goal

pub returns-clause-closed : goal.returns-clause-closed
returns-clause-closed c = goes_on_is_front

pub returns-clause-stopped : goal.returns-clause-stopped
returns-clause-stopped c = front_goes_on
