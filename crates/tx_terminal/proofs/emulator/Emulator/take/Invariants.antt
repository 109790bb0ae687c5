use Rattle.std.proofs.Common.{◌≡◌, drop}
use Rattle.tx_terminal.specs.Terminals.{after_bytes}
use Rattle.tx_terminal.specs.Emulators.{terminal}
use Rattle.tx_terminal.proofs.emulator.Emulator.take.Given as goal

-- What the bytes that are left make of it is what all make of it.
abbrev pub invariant-loop-byte : goal.invariant-loop-byte
invariant-loop-byte l =
    after_bytes (terminal l.self) (drop l.byte-index l.bytes) ≡ after_bytes (terminal l.fn.self) l.bytes
