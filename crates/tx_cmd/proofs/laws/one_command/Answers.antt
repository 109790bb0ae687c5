use Rattle.tx_cmd.proofs.Once.{one_command}
use Rattle.tx_cmd.proofs.laws.one_command.Goals as goal

pub returns : goal.returns
returns c = one_command
