use Rattle.std.proofs.Common.{◌≡◌, drop}
use Rattle.tx_tree.specs.WideTree.{forest}
use Rattle.tx_tm_write.specs.Shapes.{are_nodes}
use Rattle.tx_tm_write.proofs.shapes.are_nodes.Given as goal

abbrev pub invariant-loop-tree : goal.invariant-loop-tree
invariant-loop-tree l = are_nodes (forest l.trees) ≡ are_nodes (forest (drop l.tree-index l.trees))
