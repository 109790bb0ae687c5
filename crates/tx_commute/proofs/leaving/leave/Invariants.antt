use Rattle.std.proofs.Common.{◌≡◌, ◌≤◌, ◌+◌, ◌*◌, length, drop}
use Rattle.tx_commute.specs.Leaving.{left_out, total}
use Rattle.tx_commute.proofs.OnWay.{ArePassed}
use Rattle.tx_commute.proofs.leaving.leave.Given as goal

abbrev pub invariant-loop-mods : goal.invariant-loop-mods
invariant-loop-mods g l =
    record {
      number : l.k ≡ l.mods-index;
      passed : ArePassed l.later l.mods-index (left_out l.before l.edit l.later) l.now;
      counted : l.steps + 805 * total (drop l.mods-index l.later)
          ≤ l.fn.steps + 805 * (length l.edit + total l.later);
    }
