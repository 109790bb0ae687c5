use Rattle.std.proofs.Common.{◌≡◌, ◌≤◌, ◌+◌, drop}
use Rattle.tx_tree.specs.WideTree.{depth_of}
use Rattle.tx_tree.specs.Paths.{subtree, leading}
use Rattle.tx_mod.proofs.walks.find.Given as goal

abbrev pub invariant-loop-k : goal.invariant-loop-k
invariant-loop-k l =
    record {
      rest : subtree l.tree (drop l.k l.step-items) ≡ subtree l.fn.t l.fn.path;
      count : l.k + leading l.tree (drop l.k l.step-items) ≡ leading l.fn.t l.fn.path;
      shallow : l.k + depth_of l.tree ≤ depth_of l.fn.t;
    }
