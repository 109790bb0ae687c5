-- A path that leads is short.
use Rattle.std.proofs.Common.{◌≡◌, ℕ, ◌+◌, ◌≤◌, List, [], ◌∷◌, length, Option, Some, None, refl, arith}
use Rattle.std.specs.Prelude.{slice_get, option_and_then}
use Rattle.tx_tree.specs.Paths.{subtree}
use Rattle.tx_tree.specs.WideTree.{WideTree, leaf, node, children_of, depth_of}
use Rattle.tx_tree.proofs.Walks.{child_shallower}

some_depth : (t : WideTree) → 1 ≤ depth_of t
some_depth (leaf text) = omega arith
some_depth (node label ts) = omega arith

step_short : (t s : WideTree) (i : ℕ) (path : List ℕ) (o : Option WideTree) → slice_get (children_of t) i ≡ o
    → ((u : WideTree) → subtree u path ≡ Some s → length path + 1 ≤ depth_of u)
    → option_and_then (λ u. subtree u path) o ≡ Some s → length (i ∷ path) + 1 ≤ depth_of t
step_short t s i path None h on e = absurd cc
step_short t s i path (Some u) h on e = omega (arith, on u e, child_shallower t u i h)

-- a path that leads has fewer numbers than the tree is deep
pub path_short : (t s : WideTree) (path : List ℕ) → subtree t path ≡ Some s → length path + 1 ≤ depth_of t
path_short t s [] e = omega (arith, some_depth t)
path_short t s (i ∷ path) e = step_short t s i path (slice_get (children_of t) i) refl (λ u h. path_short u s path h) e
