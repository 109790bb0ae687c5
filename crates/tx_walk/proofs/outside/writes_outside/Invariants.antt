use Rattle.std.proofs.Common.{◌≡◌, take}
use Rattle.tx_walk.specs.Outside.{outside}
use Rattle.tx_walk.proofs.outside.writes_outside.Given as goal

abbrev pub invariant-loop-name : goal.invariant-loop-name
invariant-loop-name l = l.kept.items ≡ outside l.pairs (take l.name-index l.name-items)
