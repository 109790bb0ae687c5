use Rattle.tx_parts.proofs.MacroShells.{call_shell}
use Rattle.tx_parts.proofs.shell_laws.macro_law.Goals as goal

pub returns : goal.returns
returns c = call_shell
