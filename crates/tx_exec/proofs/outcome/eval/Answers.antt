use Rattle.tx_exec.proofs.Ending.{over_iff}
use Rattle.tx_exec.proofs.outcome.eval.Goals as goal

pub returns-clause-over : goal.returns-clause-over
returns-clause-over g c = over_iff _ _ _ _ c.in_ok-outcome.ensures.exact
