use Rattle.std.proofs.Common.{◌≡◌, ◌++◌, drop}
use Rattle.tx_layout.specs.Spread.{spread_by}
use Rattle.tx_layout.proofs.layout.push_spread.Given as goal

abbrev pub invariant-loop-item : goal.invariant-loop-item
invariant-loop-item l =
    l.spread.items ++ spread_by l.each l.left (drop l.item-index l.items)
    ≡ l.fn.spread.items ++ spread_by l.each l.more l.items
