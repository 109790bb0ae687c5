use Rattle.std.proofs.Common.{◌≡◌, take}
use Rattle.tx_walk.proofs.sharing.share_writes.Given as goal

abbrev pub invariant-loop-name : goal.invariant-loop-name
invariant-loop-name l = l.pairs.items ≡ take l.name-index l.name-items
