use Rattle.std.proofs.Common.{◌≡◌, ◌≤◌, length, drop}
use Rattle.tx_view.proofs.ends.is_origin.Given as goal

abbrev pub invariant-loop-end : goal.invariant-loop-end
invariant-loop-end l = record { within : l.end ≤ length l.steps; same : drop l.end l.steps ≡ drop l.end l.origin }

abbrev pub decreases-loop-end : goal.decreases-loop-end
decreases-loop-end l = l.end
