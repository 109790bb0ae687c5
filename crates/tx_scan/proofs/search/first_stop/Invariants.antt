use Rattle.std.proofs.Common.{◌≡◌, ◌-◌, ◌≤◌, length}
use Rattle.tx_scan.specs.Stops.{first_stop_from}
use Rattle.tx_scan.proofs.search.first_stop.Given as goal

abbrev pub invariant-loop-at : goal.invariant-loop-at
invariant-loop-at l =
    (l.from ≤ l.at)
    × (l.at ≤ length l.bytes)
    × (first_stop_from l.stops l.bytes l.from ≡ first_stop_from l.stops l.bytes l.at)

abbrev pub decreases-loop-at : goal.decreases-loop-at
decreases-loop-at l = length l.bytes - l.at
