use Rattle.std.proofs.Common.{◌≡◌, take}
use Rattle.tx_tree.proofs.trees.Tree.+same.Given as goal

abbrev pub invariant-loop-i : goal.invariant-loop-i
invariant-loop-i l = take l.i l.one.children.items ≡ take l.i l.two.children.items
