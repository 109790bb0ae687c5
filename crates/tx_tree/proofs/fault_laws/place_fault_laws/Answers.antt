use Rattle.tx_tree.proofs.PlaceFaults.{place_fault_once, place_has_no_fault, place_or_fault}
use Rattle.tx_tree.proofs.fault_laws.place_fault_laws.Goals as goal

pub returns-clause-once : goal.returns-clause-once
returns-clause-once c = place_fault_once

pub returns-clause-none : goal.returns-clause-none
returns-clause-none c = place_has_no_fault

pub returns-clause-some : goal.returns-clause-some
returns-clause-some c = place_or_fault
