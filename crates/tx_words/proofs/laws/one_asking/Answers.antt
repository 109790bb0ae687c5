use Rattle.tx_words.proofs.Asking.{asked_once}
use Rattle.tx_words.proofs.laws.one_asking.Goals as goal

pub returns : goal.returns
returns c words w h v g files others a b = asked_once words w h v g files others a b
