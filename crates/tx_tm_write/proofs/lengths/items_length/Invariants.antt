use Rattle.std.proofs.Common.{◌≡◌, ◌≤◌, ◌+◌, length, drop}
use Rattle.tx_tm_write.specs.Canonical.{items_text}
use Rattle.tx_tm_write.specs.Counts.{capped}
use Rattle.tx_tm_write.proofs.lengths.items_length.Given as goal

abbrev pub invariant-loop-i : goal.invariant-loop-i
invariant-loop-i l =
    record {
      same : capped (l.count + length (items_text l.held l.behind (drop l.i l.text))) ≡ capped
          (length (items_text l.before l.behind l.text));
      small : l.count ≤ 18446744073709551615;
    }
