-- The numbers of the statuses.
use Rattle.std.specs.Prelude.{ℕ}
use Rattle.tx_session.specs.declared.status.Status.{Status}
use Rattle.tx_session.specs.declared.status.Status.TheVariants.{Ok, Words, Missing, Refused, StoreFault}
use Rattle.tx_session.specs.declared.status.Status.TheVariants.{InputFault, OutputFault, NoMemory, ScriptLong}

abbrev pub status_number : Status → ℕ
status_number Ok = 0
status_number Words = 2
status_number Missing = 3
status_number Refused = 4
status_number StoreFault = 5
status_number InputFault = 6
status_number OutputFault = 7
status_number NoMemory = 8
status_number ScriptLong = 9
