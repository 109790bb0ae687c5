use Rattle.std.proofs.Common.{◌≡◌, ◌++◌, drop, map}
use Rattle.tx_items.specs.Drawing.{item_of}
use Rattle.tx_items.proofs.drawing.push_clusters.Given as goal

abbrev pub invariant-loop-cluster : goal.invariant-loop-cluster
invariant-loop-cluster l =
    l.items.items ++ map (item_of l.look) (drop l.cluster-index l.clusters)
    ≡ l.fn.items.items ++ map (item_of l.look) l.clusters
