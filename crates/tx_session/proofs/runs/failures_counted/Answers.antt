use Rattle.tx_session.proofs.Counted.{failures_counted, whole_counted}
use Rattle.tx_session.proofs.runs.failures_counted.Goals as goal

pub returns-clause-lines : goal.returns-clause-lines
returns-clause-lines c = failures_counted

pub returns-clause-whole : goal.returns-clause-whole
returns-clause-whole c = whole_counted
