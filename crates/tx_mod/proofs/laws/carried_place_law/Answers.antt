use Rattle.tx_mod.proofs.Together.{moves_with_path}
use Rattle.tx_mod.proofs.laws.carried_place_law.Goals as goal

pub returns : goal.returns
returns c = λ m t s q r o. moves_with_path m t s q r o
