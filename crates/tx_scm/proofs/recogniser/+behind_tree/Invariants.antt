use Rattle.std.proofs.Common.{◌≡◌, ◌≤◌, drop, length}
use Rattle.tx_tree.specs.WideTree.{forest, depth_of}
use Rattle.tx_scm.specs.Recognising.{and_then, behind_tree, behind_trees}
use Rattle.tx_scm.proofs.Places.{closing}
use Rattle.tx_scm.proofs.recogniser.+behind_tree.Given as goal

abbrev pub decreases-behind_tree : goal.decreases-behind_tree
decreases-behind_tree l = depth_of l.tree.now

abbrev pub invariant-loop-child : goal.invariant-loop-child
invariant-loop-child l =
    record {
      end : l.end ≤ length l.bytes;
      same : behind_tree l.tree (drop l.fn.at l.bytes) ≡ and_then
          (behind_trees (forest (drop l.child-index l.child-items)) (drop l.end l.bytes)) closing;
    }
