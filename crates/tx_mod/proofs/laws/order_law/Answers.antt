use Rattle.tx_mod.proofs.Ordered.{keeps_order}
use Rattle.tx_mod.proofs.laws.order_law.Goals as goal

pub returns : goal.returns
returns c = λ m t q r. keeps_order m t q r
