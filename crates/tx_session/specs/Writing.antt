-- How a reply is written.
use Rattle.std.specs.Prelude.{◌≡◌, ℕ, List, Option, Result, Ok, Err}
use Rattle.std.specs.Io.KnownBytes.{append_known}
use Rattle.tx_outside.specs.declared.faults.WriteFault.{WriteFault}
use Rattle.tx_outside.specs.Known.{AppendsPart}
use Rattle.tx_session.specs.declared.session.Next.{Next}

-- the reply is written, or after a fault of the output a part of it
abbrev pub IsSaid : Result Next WriteFault → List ℕ → Option (List ℕ) → Option (List ℕ) → Type 0
IsSaid (Ok next) reply before after = after ≡ append_known before reply
IsSaid (Err fault) reply before after = AppendsPart reply before after
