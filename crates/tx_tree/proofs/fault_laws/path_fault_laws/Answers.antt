use Rattle.tx_tree.proofs.PathFaults.{path_fault_once, path_has_no_fault, path_or_fault}
use Rattle.tx_tree.proofs.fault_laws.path_fault_laws.Goals as goal

pub returns-clause-once : goal.returns-clause-once
returns-clause-once c = path_fault_once

pub returns-clause-none : goal.returns-clause-none
returns-clause-none c = path_has_no_fault

pub returns-clause-some : goal.returns-clause-some
returns-clause-some c = path_or_fault
