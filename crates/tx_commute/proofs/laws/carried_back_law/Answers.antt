use Rattle.tx_commute.proofs.Passing.{came, comes_back}
use Rattle.tx_commute.proofs.laws.carried_back_law.Goals as goal

pub returns-clause-back : goal.returns-clause-back
returns-clause-back c = λ m t u z q r. comes_back m t u z q r

pub returns-clause-from : goal.returns-clause-from
returns-clause-from c = λ m t u z q r. came m t u z q r
