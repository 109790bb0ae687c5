use Rattle.std.proofs.Common.{◌≡◌, ◌++◌, drop, take, length}
use Rattle.tx_keys.specs.Keys.{bytes_keys}
use Rattle.tx_keys.proofs.reading.add_bytes.Given as goal

-- What has begun so far, and the keys so far, lead to those of all bytes.
abbrev pub invariant-loop-byte : goal.invariant-loop-byte
invariant-loop-byte l = record {
  begun : (bytes_keys l.now (drop l.byte-index l.bytes)).0 ≡ (bytes_keys l.fn.begun l.bytes).0;
  added : l.keys.items ++ (bytes_keys l.now (drop l.byte-index l.bytes)).1
      ≡ l.fn.keys.items ++ (bytes_keys l.fn.begun l.bytes).1;
  grows : take (length l.fn.keys.items) l.keys.items ≡ l.fn.keys.items;
}
