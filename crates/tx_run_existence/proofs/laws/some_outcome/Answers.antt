use Rattle.tx_run_existence.proofs.Opening.{some_outcome}
use Rattle.tx_run_existence.proofs.laws.some_outcome.Goals as goal

pub returns : goal.returns
returns c = some_outcome (λ number count. (c.document_laws.ensures.spelled number count).spelled)
