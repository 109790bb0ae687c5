use Rattle.std.proofs.Common.{◌≡◌, ◌≤◌, ◌-◌, List, [], length, drop}
use Rattle.tx_scm.specs.Machine.{Open, texting, reads, leads}
use Rattle.tx_scm.proofs.strings.string_text.Given as goal

abbrev pub decreases-loop-end : goal.decreases-loop-end
decreases-loop-end l = length l.bytes - l.end

abbrev pub invariant-loop-end : goal.invariant-loop-end
invariant-loop-end l =
    record {
      later : l.fn.at ≤ l.end;
      there : l.end ≤ length l.bytes;
      same : (opens : List Open) → reads (texting [] opens) (drop l.fn.at l.bytes)
          ≡ reads (texting l.text opens) (drop l.end l.bytes);
      led : (opens : List Open) → leads (texting [] opens) (drop l.fn.at l.bytes)
          ≡ leads (texting l.text opens) (drop l.end l.bytes);
    }
