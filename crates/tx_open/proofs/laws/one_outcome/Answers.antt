use Rattle.tx_open.proofs.Single.{one_outcome}
use Rattle.tx_open.proofs.laws.one_outcome.Goals as goal

pub returns : goal.returns
returns c words told = one_outcome told words (c.one_asking.ensures words)
