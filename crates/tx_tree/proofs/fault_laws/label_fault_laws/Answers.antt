use Rattle.tx_tree.proofs.LabelFaults.{label_fault_once, label_has_no_fault, label_or_fault}
use Rattle.tx_tree.proofs.fault_laws.label_fault_laws.Goals as goal

pub returns-clause-once : goal.returns-clause-once
returns-clause-once c = label_fault_once

pub returns-clause-none : goal.returns-clause-none
returns-clause-none c = label_has_no_fault

pub returns-clause-some : goal.returns-clause-some
returns-clause-some c = label_or_fault
