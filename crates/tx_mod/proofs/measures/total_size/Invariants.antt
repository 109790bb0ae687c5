use Rattle.std.proofs.Common.{◌≡◌, ◌≤◌, ◌+◌, ◌*◌, drop}
use Rattle.tx_tree.specs.WideTree.{total_size, forest}
use Rattle.tx_mod.proofs.measures.total_size.Given as goal

abbrev pub invariant-loop-tree : goal.invariant-loop-tree
invariant-loop-tree l =
    record {
      sum : l.total + total_size (forest (drop l.tree-index l.trees)) ≡ total_size (forest l.trees);
      small : l.total ≤ l.tree-index * 8000000;
    }
