use Rattle.tx_mod.proofs.InTurn.{can_be_undone, same_in_turn}
use Rattle.tx_mod.proofs.laws.list_inverse_law.Goals as goal

pub returns : goal.returns
returns c = record { undone = λ ms t. can_be_undone ms t; tree = λ ms t. same_in_turn ms t }
