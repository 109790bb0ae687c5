use Rattle.std.proofs.Common.{◌≡◌, ◌≤◌, ◌+◌, drop}
use Rattle.tx_tree.specs.WideTree.{depth_of}
use Rattle.tx_tree.specs.Paths.{subtree, leading}
use Rattle.tx_tree.proofs.places.Place.check.Given as goal

abbrev pub invariant-loop-i : goal.invariant-loop-i
invariant-loop-i l =
    record {
      rest : subtree l.tree (drop l.i l.step-items) ≡ subtree l.fn.t l.fn.self.path;
      count : l.i + leading l.tree (drop l.i l.step-items) ≡ leading l.fn.t l.fn.self.path;
      shallow : l.i + depth_of l.tree ≤ depth_of l.fn.t;
    }
