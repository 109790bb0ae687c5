use Rattle.tx_tm_form.proofs.Words.{spelled_is_read}
use Rattle.tx_tm_form.proofs.Taken.{read_is_spelled}
use Rattle.tx_tm_form.proofs.laws.machine_reads_what_is_spelled.Goals as goal

pub returns-clause-complete : goal.returns-clause-complete
returns-clause-complete c = spelled_is_read

pub returns-clause-sound : goal.returns-clause-sound
returns-clause-sound c = read_is_spelled
