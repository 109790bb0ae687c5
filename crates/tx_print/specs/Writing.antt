-- The result of printing a text to a sink.
use Rattle.std.specs.Prelude.{◌≡◌, ℕ, List, Option, Result, Ok, Err}
use Rattle.std.specs.Io.KnownBytes.{append_known}
use Rattle.tx_outside.specs.declared.faults.WriteFault.{WriteFault}
use Rattle.tx_outside.specs.Counts.{Rose}
use Rattle.tx_outside.specs.Known.{AppendsPart}
use Rattle.tx_outside.specs.Outside.{SinkGoesOn, SinkSeen}

-- the text is written, or after a fault a part of it, from its start on
abbrev pub IsTextWritten : Result (Unit {0}) WriteFault → List ℕ → Option (List ℕ) → Option (List ℕ) → Type 0
IsTextWritten (Ok done) text before after = after ≡ append_known before text
IsTextWritten (Err fault) text before after = AppendsPart text before after

-- a fault is counted
abbrev pub IsFaultCounted : Result (Unit {0}) WriteFault → ℕ → ℕ → Type 0
IsFaultCounted (Ok done) before after = Unit {0}
IsFaultCounted (Err fault) before after = Rose before after

-- the text is printed, by what is seen of the sink before and after
pub record IsPrinted (result : Result (Unit {0}) WriteFault) (text : List ℕ) (before after : SinkSeen) : Type 0 where
  pub is_written : IsTextWritten result text before.written after.written
  pub counted : IsFaultCounted result before.faults after.faults
  pub goes_on : SinkGoesOn before after
