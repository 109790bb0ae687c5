use Rattle.tx_scm.proofs.OneFault.{once, none}
use Rattle.tx_scm.proofs.SomeFault.{read_or_fault}
use Rattle.tx_scm.proofs.laws.fault_laws.Goals as goal

pub returns-clause-once : goal.returns-clause-once
returns-clause-once c = once

pub returns-clause-none : goal.returns-clause-none
returns-clause-none c = none

pub returns-clause-some : goal.returns-clause-some
returns-clause-some c = read_or_fault
