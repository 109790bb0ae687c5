use Rattle.std.proofs.Common.{◌≡◌}
use Rattle.tx_scan.specs.Stops.{first_stop_from}
use Rattle.tx_scan.proofs.search.first_stop_one_by_one.Given as goal

abbrev pub invariant-loop-at : goal.invariant-loop-at
invariant-loop-at l = first_stop_from l.stops l.bytes l.from ≡ first_stop_from l.stops l.bytes l.at
