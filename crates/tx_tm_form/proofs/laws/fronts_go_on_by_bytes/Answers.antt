use Rattle.tx_tm_form.proofs.Closing.{front_by_bytes}
use Rattle.tx_tm_form.proofs.laws.fronts_go_on_by_bytes.Goals as goal

pub returns : goal.returns
returns c = front_by_bytes
