use Rattle.std.specs.Prelude.{string_bytes}
use Rattle.tx_text.proofs.Reading.{ReadTo}
use Rattle.tx_text.proofs.cutting.display_of.Given as goal

abbrev pub invariant-loop-at : goal.invariant-loop-at
invariant-loop-at l = ReadTo l.bytes l.in_symbol l.from l.at (string_bytes l.display.text) l.display.places.items
