use Rattle.std.proofs.Common.{◌≡◌, ◌++◌, length, take, drop}
use Rattle.std.specs.List.{flat_map}
use Rattle.tx_scm.specs.Spelling.{escaped}
use Rattle.tx_scm.proofs.writer.append_escaped.Given as goal

abbrev pub invariant-loop-byte : goal.invariant-loop-byte
invariant-loop-byte l =
    record {
      text : l.out.items ++ flat_map escaped (drop l.byte-index l.bytes) ≡ l.fn.out.items ++ flat_map escaped l.bytes;
      grows : take (length l.fn.out.items) l.out.items ≡ l.fn.out.items;
    }
