use Rattle.tx_tm_form.proofs.OneFault.{one_fault, no_fault_of_tree, tree_or_fault}
use Rattle.tx_tm_form.proofs.laws.bytes_have_one_fault.Goals as goal

pub returns-clause-once : goal.returns-clause-once
returns-clause-once c = one_fault

pub returns-clause-none : goal.returns-clause-none
returns-clause-none c = no_fault_of_tree

pub returns-clause-some : goal.returns-clause-some
returns-clause-some c = tree_or_fault
