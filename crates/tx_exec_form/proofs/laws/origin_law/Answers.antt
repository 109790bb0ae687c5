use Rattle.tx_exec_form.proofs.Tracing.{comes}
use Rattle.tx_exec_form.proofs.laws.origin_law.Goals as goal

pub returns : goal.returns
returns c = comes
