use Rattle.tx_scm.proofs.Fronts.{by_bytes}
use Rattle.tx_scm.proofs.laws.fronts_go_on_by_bytes.Goals as goal

pub returns : goal.returns
returns c = by_bytes
