use Rattle.std.proofs.Common.{◌≡◌, ◌++◌, take}
use Rattle.tx_tree.proofs.sharing.share_onto.Given as goal

abbrev pub invariant-loop-tree : goal.invariant-loop-tree
invariant-loop-tree l = l.into.items ≡ l.fn.into.items ++ take l.tree-index l.trees
