-- Trees that are gone into.
use Rattle.std.specs.Prelude.{Bool, true, false}
use Rattle.tx_parts.specs.Openness.{Openness, Document, With, Shut}

abbrev pub is_open : Openness → Bool
is_open (Document ts) = true
is_open (With ps b) = true
is_open Shut = false
