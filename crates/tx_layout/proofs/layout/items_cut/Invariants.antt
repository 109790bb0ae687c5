use Rattle.std.proofs.Common.{◌≡◌, ◌++◌, drop, map}
use Rattle.tx_layout.specs.Words.{capped_item}
use Rattle.tx_layout.proofs.layout.items_cut.Given as goal

abbrev pub invariant-loop-item : goal.invariant-loop-item
invariant-loop-item l =
    l.shown.items ++ map (capped_item l.least) (drop l.item-index l.items) ≡ map (capped_item l.least) l.items
