use Rattle.std.proofs.Common.{take}
use Rattle.tx_origin.proofs.Parts.{IsCounted}
use Rattle.tx_origin.proofs.values.Value.node_from.Given as goal

abbrev pub invariant-loop-part : goal.invariant-loop-part
invariant-loop-part l = IsCounted l.size l.deepest l.nodes (take l.part-index l.part-items)
