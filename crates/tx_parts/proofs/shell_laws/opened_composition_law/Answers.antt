use Rattle.tx_parts.proofs.Opened.{opened_is, composed_by_is}
use Rattle.tx_parts.proofs.shell_laws.opened_composition_law.Goals as goal

pub returns : goal.returns
returns c = record { inner = opened_is; nested = composed_by_is }
