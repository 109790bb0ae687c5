use Rattle.std.proofs.Common.{◌≡◌, take, map}
use Rattle.tx_origin.specs.Under.{value_under}
use Rattle.tx_origin.proofs.values.Value.+under.Given as goal

abbrev pub invariant-loop-part : goal.invariant-loop-part
invariant-loop-part l = l.moved.items ≡ map (value_under l.base) (take l.part-index l.part-items)
