use Rattle.std.proofs.Common.{◌≡◌, drop, Some}
use Rattle.tx_keys.specs.Keys.{key_after, whole_key}
use Rattle.tx_keys.proofs.reading.whole_key.Given as goal

abbrev pub invariant-loop-byte : goal.invariant-loop-byte
invariant-loop-byte l = key_after (Some l.last) (drop l.byte-index l.bytes) ≡ whole_key l.bytes
