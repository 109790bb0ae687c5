use Rattle.tx_mod.proofs.Kept.{carries_subtree}
use Rattle.tx_mod.proofs.laws.carried_law.Goals as goal

pub returns : goal.returns
returns c = λ m t q. carries_subtree m t q
