use Rattle.tx_cmd.proofs.Once.{one_cause, no_cause}
use Rattle.tx_cmd.proofs.SomeAnswer.{some_answer}
use Rattle.tx_cmd.proofs.laws.one_answer.Goals as goal

pub returns-clause-cause : goal.returns-clause-cause
returns-clause-cause c = one_cause

pub returns-clause-command : goal.returns-clause-command
returns-clause-command c = λ line command fault some is. no_cause line command fault some is

pub returns-clause-some : goal.returns-clause-some
returns-clause-some c = some_answer
