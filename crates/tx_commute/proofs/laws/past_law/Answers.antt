use Rattle.tx_commute.proofs.Law.{makes_together}
use Rattle.tx_commute.proofs.PastMany.{all_together, all_known, undone_known}
use Rattle.tx_commute.proofs.laws.past_law.Goals as goal

pub returns : goal.returns
returns c = λ t u v a b b' a'. makes_together t u v a b b' a'
