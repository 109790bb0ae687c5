-- The numbers of the endings.
use Rattle.std.specs.Prelude.{ℕ}
use Rattle.tx_screen.specs.declared.ending.Ending.{Ending}
use Rattle.tx_screen.specs.declared.ending.Ending.TheVariants.{Left, Words, Missing, Refused, StoreFault, InputFault}
use Rattle.tx_screen.specs.declared.ending.Ending.TheVariants.{OutputFault, NoMemory, InputLong, InputEnded, Unsaved}

abbrev pub ending_number : Ending → ℕ
ending_number Left = 0
ending_number Words = 2
ending_number Missing = 3
ending_number Refused = 4
ending_number StoreFault = 5
ending_number InputFault = 6
ending_number OutputFault = 7
ending_number NoMemory = 8
ending_number InputLong = 9
ending_number InputEnded = 10
ending_number Unsaved = 11
