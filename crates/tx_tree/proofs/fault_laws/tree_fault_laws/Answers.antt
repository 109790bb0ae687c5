use Rattle.tx_tree.proofs.TreeFaults.{tree_fault_once, tree_has_no_fault, tree_or_fault}
use Rattle.tx_tree.proofs.fault_laws.tree_fault_laws.Goals as goal

pub returns-clause-once : goal.returns-clause-once
returns-clause-once c = tree_fault_once

pub returns-clause-none : goal.returns-clause-none
returns-clause-none c = tree_has_no_fault

pub returns-clause-some : goal.returns-clause-some
returns-clause-some c = tree_or_fault
