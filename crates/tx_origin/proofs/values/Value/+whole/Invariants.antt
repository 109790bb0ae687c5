use Rattle.std.proofs.Common.{◌≡◌, ◌++◌}
use Rattle.tx_tree.specs.WideTree.{children_of, depth_of}
use Rattle.tx_origin.proofs.Wholes.{from}
use Rattle.tx_origin.proofs.values.Value.+whole.Given as goal

abbrev pub decreases-whole : goal.decreases-whole
decreases-whole l = depth_of l.tree.now

abbrev pub invariant-loop-i : goal.invariant-loop-i
invariant-loop-i l = l.parts.items ++ from l.at l.i (children_of l.tree) ≡ from l.at 0 (children_of l.tree)
