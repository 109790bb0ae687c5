use Rattle.std.proofs.Common.{◌≡◌, ◌≤◌, ◌+◌, max, drop}
use Rattle.std.specs.Prelude.{IsSome}
use Rattle.tx_tree.specs.WideTree.{WideTree, depth_of}
use Rattle.tx_tree.specs.Paths.{subtree}
use Rattle.tx_mod.specs.Mods.{replaced}
use Rattle.tx_mod.proofs.walks.depth_with.Given as goal

abbrev pub invariant-loop-k : goal.invariant-loop-k
invariant-loop-k l =
    record {
      leads : IsSome (subtree l.tree (drop l.k l.steps));
      whole : (v : WideTree) → depth_of v ≡ l.fn.depth
          → max l.beside (l.k + depth_of (replaced l.tree (drop l.k l.steps) v)) ≡ depth_of
          (replaced l.fn.t l.fn.path v);
      shallow : l.k + depth_of l.tree ≤ depth_of l.fn.t;
      low : l.beside ≤ 1000;
    }
