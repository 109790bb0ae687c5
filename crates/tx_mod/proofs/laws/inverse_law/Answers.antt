use Rattle.tx_mod.proofs.Back.{gives_back}
use Rattle.tx_mod.proofs.Twice.{made_again}
use Rattle.tx_mod.proofs.laws.inverse_law.Goals as goal

pub returns : goal.returns
returns c = record { back = λ m t. gives_back m t; again = λ m t. made_again m t }
