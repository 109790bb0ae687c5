use Rattle.tx_existence.proofs.Paging.{some_paging}
use Rattle.tx_existence.proofs.laws.some_paging.Goals as goal

pub returns : goal.returns
returns c = some_paging
