use Rattle.std.proofs.Common.{take}
use Rattle.tx_tree.proofs.Children.{IsCounted}
use Rattle.tx_tree.proofs.trees.Tree.node.Given as goal

abbrev pub invariant-loop-child : goal.invariant-loop-child
invariant-loop-child g l = IsCounted l.size l.deepest (take l.child-index l.child-items)
