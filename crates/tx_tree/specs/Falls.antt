-- Each child of a tree is less deep than the tree.
use Rattle.std.specs.Prelude.{◌+◌, ◌≤◌, max, List, [], ◌∷◌}
use Rattle.std.proofs.Common.{arith}
use denote.Param.Weighed.{most}
use Rattle.tx_tree.specs.WideTree.{WideTree, forest, depth_of, deepest}
use Rattle.tx_tree.specs.declared.trees.Content.{Content}
use Rattle.tx_tree.specs.declared.trees.Content.TheVariants.{Leaf, Node}
use Rattle.tx_tree.specs.declared.trees.Tree.TheDeep.{deep-Content}
use Rattle.tx_tree.specs.Trees.{wide_of}

pub most_le-deepest : (ts : List WideTree) → most (λ t. depth_of t + 1) ts ≤ deepest (forest ts) + 1
most_le-deepest [] = omega arith
most_le-deepest (t ∷ ts) = omega (arith, most_le-deepest ts)

pub depth_falls : (c : Content) → max (deep-Content c) 0 ≤ depth_of (wide_of c)
depth_falls (Leaf text) = omega arith
depth_falls (Node branch) = omega (arith, most_le-deepest branch.value.children.items)
