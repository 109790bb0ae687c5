use Rattle.std.proofs.Common.{◌≡◌, ◌≤◌, max, drop}
use Rattle.tx_tree.specs.WideTree.{deepest, forest}
use Rattle.tx_mod.proofs.measures.deepest.Given as goal

abbrev pub invariant-loop-tree : goal.invariant-loop-tree
invariant-loop-tree l =
    record {
      most : max l.deepest (deepest (forest (drop l.tree-index l.trees))) ≡ deepest (forest l.trees);
      shallow : l.deepest ≤ 400;
    }
