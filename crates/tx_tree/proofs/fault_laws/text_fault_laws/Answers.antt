use Rattle.tx_tree.proofs.TextFaults.{text_fault_once, text_has_no_fault, text_or_fault, bad_byte_there, text_stops}
use Rattle.tx_tree.proofs.fault_laws.text_fault_laws.Goals as goal

pub returns-clause-once : goal.returns-clause-once
returns-clause-once c = text_fault_once

pub returns-clause-none : goal.returns-clause-none
returns-clause-none c = text_has_no_fault

pub returns-clause-some : goal.returns-clause-some
returns-clause-some c = text_or_fault

pub returns-clause-bad_byte : goal.returns-clause-bad_byte
returns-clause-bad_byte c = bad_byte_there

pub returns-clause-stops_at_byte : goal.returns-clause-stops_at_byte
returns-clause-stops_at_byte c = λ bytes more n h. text_stops bytes more n h.1 h.2

pub returns-clause-stops_in_symbol : goal.returns-clause-stops_in_symbol
returns-clause-stops_in_symbol c = λ bytes more n h. text_stops bytes more n h.1
