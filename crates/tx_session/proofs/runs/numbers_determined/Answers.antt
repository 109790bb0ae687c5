use Rattle.tx_session.proofs.Numbers.{numbers_determined}
use Rattle.tx_session.proofs.runs.numbers_determined.Goals as goal

pub returns : goal.returns
returns c = numbers_determined c.one_view.ensures c.one_outcome.ensures
