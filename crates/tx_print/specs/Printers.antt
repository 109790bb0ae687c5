-- What a printer holds back of a text. Only private clauses cite this.
use Rattle.std.specs.Prelude.{◌≡◌, ℕ, Bool, true, false, List, [], ◌++◌, Option, Some, None, Result}
use Rattle.std.specs.Io.KnownBytes.{append_known}
use Rattle.tx_outside.specs.declared.faults.WriteFault.{WriteFault}
use Rattle.tx_outside.specs.Counts.{Rose}
use Rattle.tx_outside.specs.Known.{AppendsPart}
use Rattle.tx_outside.specs.Outside.{SinkGoesOn, SinkSeen}
use Rattle.tx_print.specs.declared.printer.Printer.{Printer}
use Rattle.tx_print.specs.Writing.{IsPrinted}

-- the text is what was written and what waits; once the sink has failed a part of the text is written
abbrev pub PrinterHolds : Bool → List ℕ → List ℕ → Option (List ℕ) → Option (List ℕ) → Type 0
PrinterHolds false text waiting start written =
    (sent : List ℕ) × (written ≡ append_known start sent) × (text ≡ sent ++ waiting)
PrinterHolds true text waiting start written = AppendsPart text start written

-- so far a printer was given this text; the sink was so when it began, and is so now
pub record PrinterStands (start : SinkSeen) (text : List ℕ) (p : Printer) (now : SinkSeen) : Type 0 where
  pub holds : PrinterHolds p.failed text p.waiting.items start.written now.written
  pub rose : p.failed ≡ true → Rose start.faults now.faults
  pub goes_on : SinkGoesOn start now

-- a printer was given this text
pub record PrinterAdds (text : List ℕ) (p : Printer) (before : SinkSeen) (q : Printer) (after : SinkSeen) : Type 0 where
  pub given : (start : SinkSeen) (front : List ℕ) → PrinterStands start front p before
      → PrinterStands start (front ++ text) q after

-- all that a printer was given is printed
pub record Ends (result : Result (Unit {0}) WriteFault) (p : Printer) (before after : SinkSeen) : Type 0 where
  pub all : (start : SinkSeen) (text : List ℕ) → PrinterStands start text p before → IsPrinted result text start after

-- the text of an element, or nothing where there is none
abbrev pub element_text : {X : Type 0} → (X → List ℕ) → Option X → List ℕ
element_text text (Some x) = text x
element_text text None = []
