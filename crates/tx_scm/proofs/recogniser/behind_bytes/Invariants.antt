use Rattle.std.proofs.Common.{◌≡◌, ◌≤◌, drop, length}
use Rattle.tx_scm.specs.Recognising.{behind_bytes}
use Rattle.tx_scm.proofs.recogniser.behind_bytes.Given as goal

abbrev pub invariant-loop-byte : goal.invariant-loop-byte
invariant-loop-byte l =
    record {
      end : l.end ≤ length l.bytes;
      same : behind_bytes l.wanted (drop l.fn.at l.bytes) ≡ behind_bytes (drop l.byte-index l.wanted)
          (drop l.end l.bytes);
    }
