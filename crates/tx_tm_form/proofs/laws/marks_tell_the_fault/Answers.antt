use Rattle.tx_tm_form.proofs.OneFault.{told, told_tree}
use Rattle.tx_tm_form.proofs.laws.marks_tell_the_fault.Goals as goal

pub returns-clause-fault : goal.returns-clause-fault
returns-clause-fault c = told

pub returns-clause-tree : goal.returns-clause-tree
returns-clause-tree c = told_tree
