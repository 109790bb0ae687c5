use Rattle.std.proofs.Common.{◌≡◌, ◌≤◌, ◌+◌, ◌-◌, [], length, drop}
use Rattle.tx_scm.specs.Machine.{between, reads, leads}
use Rattle.tx_scm.specs.Sizes.{IsSized}
use Rattle.tx_scm.specs.States.{state_of, IsCounted}
use Rattle.tx_scm.proofs.reader.read_all.Given as goal

abbrev pub decreases-loop-at : goal.decreases-loop-at
decreases-loop-at g l = length l.bytes - l.at

abbrev pub invariant-loop-at : goal.invariant-loop-at
invariant-loop-at g l =
    record {
      same : reads (between []) l.bytes ≡ reads (state_of l.reader) (drop l.at l.bytes);
      led : leads (between []) l.bytes ≡ leads (state_of l.reader) (drop l.at l.bytes);
      counted : IsCounted l.fn.steps l.steps (state_of l.reader);
      sized : IsSized l.reader.size (state_of l.reader);
      small : l.reader.size ≤ 8000000;
      within : l.at ≤ length l.bytes;
      bounded : l.steps ≤ l.fn.steps + l.at;
      rises : l.fn.steps ≤ l.steps;
    }
