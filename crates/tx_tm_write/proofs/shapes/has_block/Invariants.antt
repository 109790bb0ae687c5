use Rattle.std.proofs.Common.{◌≡◌, drop}
use Rattle.tx_tree.specs.WideTree.{forest}
use Rattle.tx_tm_write.specs.Shapes.{has_block}
use Rattle.tx_tm_write.proofs.shapes.has_block.Given as goal

abbrev pub invariant-loop-i : goal.invariant-loop-i
invariant-loop-i l = has_block (forest (drop l.from l.trees)) ≡ has_block (forest (drop l.i l.trees))
