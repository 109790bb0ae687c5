use Rattle.tx_tm_form.proofs.Words.{spelled_is_read}
use Rattle.tx_tm_form.proofs.Taken.{read_is_spelled}
use Rattle.tx_tm_read.proofs.reader.read.Goals as goal

pub returns-in-Ok-Some-clause-found : goal.returns-in-Ok-Some-clause-found
returns-in-Ok-Some-clause-found g c =
    let found = rw c.in-Ok-Some.field-0-is at c.in-Ok-Some.ensures.found in
    read_is_spelled c.args.bytes.now c.in-Ok-Some.tree found

pub fault_of-requires : goal.fault_of-requires
fault_of-requires g c =
    let none = rw c.in-Ok-None.field-0-is at c.in-Ok-None.ensures.found in
    record { none = λ t s w. none t (spelled_is_read c.args.bytes.now t s) w }
