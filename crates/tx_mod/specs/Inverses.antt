-- The modification that gives a tree back.
use Rattle.std.specs.Prelude.{ℕ, [], slice_get, unwrap_or}
use Rattle.std.specs.Option.{option_map_or}
use Rattle.tx_tree.specs.Paths.{subtree}
use Rattle.tx_tree.specs.WideTree.{WideTree, leaf, node, forest, trees, children_of, label_of}
use Rattle.tx_mod.specs.declared.mods.Mod.{Mod}
use Rattle.tx_mod.specs.declared.mods.Mod.TheVariants.{Assign, Insert, Remove, Split, Join}
use Rattle.tx_mod.specs.declared.mods.Mod.TheVariants.{AssignNode, InsertNode, RemoveNode}
use Rattle.tx_mod.specs.Mods.{path_of, tuple, taken_out, slice_of, extent}

-- what a removal takes out, as a text or as a tuple
abbrev pub removed_part : WideTree → ℕ → ℕ → WideTree
removed_part (leaf text) i n = leaf (slice_of text i n)
removed_part (node l ts) i n = node tuple (forest (slice_of (trees ts) i n))

-- the node without child i
abbrev pub without_child : WideTree → ℕ → WideTree
without_child (leaf text) i = leaf text
without_child (node l ts) i = node l (forest (taken_out (trees ts) i 1))

-- what gives the subtree s back, where it was before the modification
abbrev pub inverse_at : Mod → WideTree → Mod
inverse_at (Assign p x) s = Assign p s
inverse_at (Insert p i x) s = Remove p i (extent x)
inverse_at (Remove p i n) s = Insert p i (removed_part s i n)
inverse_at (Split p i j) s = Join p i
inverse_at (Join p i) s = Split p i (option_map_or extent (slice_get (children_of s) i) 0)
inverse_at (AssignNode p l) s = AssignNode p (unwrap_or (label_of s) [])
inverse_at (InsertNode p i x) s = RemoveNode p i
inverse_at (RemoveNode p i) s = InsertNode p i (without_child s i)

-- what gives the tree t back, from what the modification makes of it
abbrev pub inverse_of : Mod → WideTree → Mod
inverse_of m t = option_map_or (inverse_at m) (subtree t (path_of m)) m
