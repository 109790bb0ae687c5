use Rattle.std.proofs.Common.{drop}
use Rattle.tx_prim.specs.Operands.{truth_in}
use Rattle.tx_prim.proofs.Collecting.{Collects}
use Rattle.tx_prim.proofs.operands.truths.Given as goal

abbrev pub invariant-loop-operand : goal.invariant-loop-operand
invariant-loop-operand l = Collects truth_in l.operands l.all.items (drop l.operand-index l.operands)
