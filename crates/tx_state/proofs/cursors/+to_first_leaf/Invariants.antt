use Rattle.std.proofs.Common.{◌≡◌, drop}
use Rattle.tx_tree.specs.WideTree.{depth_of, forest}
use Rattle.tx_state.specs.Cursors.{first_leaf, first_leaf_from}
use Rattle.tx_state.proofs.cursors.+to_first_leaf.Given as goal

abbrev pub decreases-to_first_leaf : goal.decreases-to_first_leaf
decreases-to_first_leaf l = depth_of l.t.now

abbrev pub invariant-loop-i : goal.invariant-loop-i
invariant-loop-i l = (first_leaf l.fn.t ≡ first_leaf_from l.i (forest (drop l.i l.child-items))) × (l.path ≡ l.fn.path)
