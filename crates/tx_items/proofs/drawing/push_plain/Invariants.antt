use Rattle.std.proofs.Common.{◌≡◌, ◌++◌, drop, map}
use Rattle.tx_text.specs.Places.{plain_clusters}
use Rattle.tx_items.specs.Drawing.{item_of}
use Rattle.tx_items.proofs.drawing.push_plain.Given as goal

abbrev pub invariant-loop-at : goal.invariant-loop-at
invariant-loop-at l =
    l.items.items ++ map (item_of l.look) (plain_clusters l.at (drop l.at l.bytes))
    ≡ l.fn.items.items ++ map (item_of l.look) (plain_clusters 0 l.bytes)
