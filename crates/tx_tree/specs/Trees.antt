-- A tree of the program as a wide tree.
use Rattle.std.specs.Prelude.{◌≡◌}
use Rattle.tx_tree.specs.WideTree.{WideTree, leaf, node, forest, size_of, depth_of}
use Rattle.tx_tree.specs.Limits.{IsWellFormed, IsWithinLimits}
use Rattle.tx_tree.specs.declared.trees.Content.{Content}
use Rattle.tx_tree.specs.declared.trees.Content.TheVariants.{Leaf, Node}
use Rattle.tx_tree.specs.declared.trees.Tree.TheInside.{Inside}

abbrev pub wide_of : Content → WideTree
wide_of (Leaf text) = leaf text
wide_of (Node branch) = node branch.value.label (forest branch.value.children.items)

-- the stored numbers are right, and the tree is within the limits
pub record IsKept (t : Inside) : Type 0 where
  pub size : t.size ≡ size_of (wide_of t.content)
  pub depth : t.depth ≡ depth_of (wide_of t.content)
  pub well_formed : IsWellFormed (wide_of t.content)
  pub within : IsWithinLimits (wide_of t.content)
