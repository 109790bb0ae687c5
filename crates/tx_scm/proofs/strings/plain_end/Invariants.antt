use Rattle.std.proofs.Common.{◌≤◌, ◌<◌, ◌-◌, ℕ, length, get_or}
use Rattle.tx_scm.specs.Plain.{IsPlain}
use Rattle.tx_scm.proofs.strings.plain_end.Given as goal

abbrev pub decreases-loop-end : goal.decreases-loop-end
decreases-loop-end l = length l.bytes - l.end

abbrev pub invariant-loop-end : goal.invariant-loop-end
invariant-loop-end l =
    record {
      later : l.fn.at < l.end;
      there : l.end ≤ length l.bytes;
      plain : (k : ℕ) → l.fn.at ≤ k → k < l.end → IsPlain (get_or l.bytes k 0);
    }
