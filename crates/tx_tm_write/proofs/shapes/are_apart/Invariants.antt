use Rattle.std.proofs.Common.{◌≡◌, drop, false}
use Rattle.tx_tree.specs.WideTree.{forest}
use Rattle.tx_tm_write.specs.Shapes.{are_apart}
use Rattle.tx_tm_write.proofs.shapes.are_apart.Given as goal

abbrev pub invariant-loop-tree : goal.invariant-loop-tree
invariant-loop-tree l = are_apart false (forest l.trees) ≡ are_apart l.behind_text (forest (drop l.tree-index l.trees))
