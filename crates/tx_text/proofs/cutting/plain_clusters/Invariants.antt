use Rattle.std.proofs.Common.{◌≡◌, ◌++◌, drop}
use Rattle.tx_text.specs.Places.{plain_clusters}
use Rattle.tx_text.proofs.cutting.plain_clusters.Given as goal

abbrev pub invariant-loop-at : goal.invariant-loop-at
invariant-loop-at l = l.found.items ++ plain_clusters l.at (drop l.at l.bytes) ≡ plain_clusters 0 l.bytes
