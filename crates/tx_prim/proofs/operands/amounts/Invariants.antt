use Rattle.std.proofs.Common.{drop}
use Rattle.tx_prim.specs.Operands.{amount_in}
use Rattle.tx_prim.proofs.Collecting.{Collects}
use Rattle.tx_prim.proofs.operands.amounts.Given as goal

abbrev pub invariant-loop-operand : goal.invariant-loop-operand
invariant-loop-operand l = Collects amount_in l.operands l.all.items (drop l.operand-index l.operands)
