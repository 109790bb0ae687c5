use Rattle.std.proofs.Common.{◌≤◌, ◌+◌, ◌*◌}
use Rattle.tx_commute.proofs.OnWay.{IsFurther}
use Rattle.tx_commute.proofs.midway.past_list.Given as goal

abbrev pub invariant-loop-b : goal.invariant-loop-b
invariant-loop-b g l =
    record {
      further : IsFurther l.mods l.b-index l.fn.midway l.now;
      counted : l.steps ≤ l.fn.steps + 805 * l.b-index;
    }
