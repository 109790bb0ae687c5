use Rattle.std.proofs.Common.{◌≡◌, ◌==◌, ◌-◌, ◌≤◌, length, take, count_by}
use Rattle.tx_scan.proofs.count.count_of.Given as goal

abbrev pub invariant-loop-at : goal.invariant-loop-at
invariant-loop-at l = (l.at ≤ length l.bytes) × (l.total ≡ count_by (λ x. x == l.b) (take l.at l.bytes))

abbrev pub decreases-loop-at : goal.decreases-loop-at
decreases-loop-at l = length l.bytes - l.at
