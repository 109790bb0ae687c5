use Rattle.std.proofs.Common.{◌≤◌, ◌+◌, ◌*◌}
use Rattle.tx_commute.proofs.OnWay.{IsBegun}
use Rattle.tx_commute.proofs.midway.begin.Given as goal

abbrev pub invariant-loop-m : goal.invariant-loop-m
invariant-loop-m g l =
    record {
      begun : IsBegun l.edit l.m-index l.before l.known.items l.present;
      counted : l.steps ≤ l.fn.steps + 805 * l.m-index;
    }
