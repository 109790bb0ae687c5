use Rattle.std.proofs.Common.{◌≡◌, ◌+◌, ◌≤◌, drop}
use Rattle.tx_layout.specs.Spread.{spaces_among}
use Rattle.tx_layout.proofs.layout.spaces_among.Given as goal

abbrev pub invariant-loop-item : goal.invariant-loop-item
invariant-loop-item l = record {
  so_far : l.count + spaces_among (drop l.item-index l.items) ≡ spaces_among l.items;
  few : l.count ≤ l.item-index;
}
