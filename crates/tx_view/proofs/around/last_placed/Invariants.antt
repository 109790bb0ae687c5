use Rattle.std.proofs.Common.{◌≤◌, length}
use Rattle.tx_view.proofs.around.last_placed.Given as goal

abbrev pub invariant-loop-k : goal.invariant-loop-k
invariant-loop-k l = l.k ≤ length l.units

abbrev pub decreases-loop-k : goal.decreases-loop-k
decreases-loop-k l = l.k
