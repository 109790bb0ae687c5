use Rattle.std.proofs.Common.{◌≡◌, ℕ, ◌<◌, ◌≤◌, not, eqb, true, length, get_or}
use Rattle.tx_words.proofs.names.behind_last.Given as goal

abbrev pub invariant-loop-end : goal.invariant-loop-end
invariant-loop-end l =
    record {
      within : l.end ≤ length l.bytes;
      above : (k : ℕ) → l.end ≤ k → k < length l.bytes
          → not (eqb (get_or l.bytes k 0) l.byte) ≡ true;
    }

abbrev pub decreases-loop-end : goal.decreases-loop-end
decreases-loop-end l = l.end
