use Rattle.tx_run_existence.proofs.Running.{some_run}
use Rattle.tx_run_existence.proofs.laws.some_run.Goals as goal

pub returns : goal.returns
returns c = λ words before files script known tells.
    some_run words before files script known tells
    (λ number count. (c.document_laws.ensures.spelled number count).spelled)
