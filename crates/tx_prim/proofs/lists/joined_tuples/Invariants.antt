use Rattle.std.proofs.Common.{drop}
use Rattle.tx_prim.specs.Operands.{tuple_in, AreShallow}
use Rattle.tx_prim.proofs.Collecting.{Joins}
use Rattle.tx_prim.proofs.lists.joined_tuples.Given as goal

abbrev pub invariant-loop-operand : goal.invariant-loop-operand
invariant-loop-operand l =
    Joins tuple_in l.operands l.all.items (drop l.operand-index l.operands) × AreShallow l.all.items
