use Rattle.std.proofs.Common.{◌≡◌, take}
use Rattle.tx_env.specs.Changes.{map_of}
use Rattle.tx_env.specs.Environments.{overlaid}
use Rattle.tx_walk.proofs.joined.join_writes.Given as goal

abbrev pub invariant-loop-name : goal.invariant-loop-name
invariant-loop-name l = map_of l.own ≡ overlaid (map_of l.fn.own) (take l.name-index l.name-items)
