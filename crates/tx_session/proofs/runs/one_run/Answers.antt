use Rattle.tx_session.proofs.SameFiles.{one_run}
use Rattle.tx_session.proofs.runs.one_run.Goals as goal

pub returns : goal.returns
returns c = one_run c.one_view.ensures c.one_outcome.ensures
