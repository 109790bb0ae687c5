use Rattle.tx_exec_form.proofs.Tracing.{small}
use Rattle.tx_exec_form.proofs.laws.size_law.Goals as goal

pub returns : goal.returns
returns c = small
