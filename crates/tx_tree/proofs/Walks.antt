-- What a walk down a tree from outside rests on.
use Rattle.std.proofs.Common.{◌≡◌, ℕ, zero, suc, ◌+◌, ◌<◌, ◌≤◌, List, [], ◌∷◌, length, drop, get_or, arith, add-one}
use Rattle.std.specs.Prelude.{slice_get, Some, None}
use Rattle.tx_tree.specs.WideTree.{WideTree, Forest, leaf, node, nil, cons, forest, trees, children_of, label_of}
use Rattle.tx_tree.specs.WideTree.{text_of, depth_of, deepest}
use Rattle.tx_tree.proofs.Children.{forest_trees}

-- a tree is a leaf or a node
pub leaf_or_node : (t : WideTree) → text_of t ≡ None → label_of t ≡ None → ⊥
leaf_or_node (leaf text) e f = cc
leaf_or_node (node label ts) e f = cc

-- a tree with a label is the node of that label and its children
pub node_is : (t : WideTree) (label : List ℕ) → label_of t ≡ Some label → t ≡ node label (forest (children_of t))
node_is (leaf text) label e = absurd cc
node_is (node l ts) label e = let same : l ≡ label = cc in let children = forest_trees ts in cc

-- a tree with a text is the leaf of that text
pub leaf_is : (t : WideTree) (text : List ℕ) → text_of t ≡ Some text → t ≡ leaf text
leaf_is (leaf s) text e = cc
leaf_is (node l ts) text e = absurd cc

get_le_deepest : (ts : Forest) (i : ℕ) (t : WideTree) → slice_get (trees ts) i ≡ Some t → depth_of t ≤ deepest ts
get_le_deepest nil i t e = absurd cc
get_le_deepest (cons u ts) zero t e = let same : u ≡ t = cc in rw (← same) (omega arith)
get_le_deepest (cons u ts) (suc i) t e = omega (arith, get_le_deepest ts i t e)

-- a child is less deep
pub child_shallower : (p t : WideTree) (i : ℕ) → slice_get (children_of p) i ≡ Some t → depth_of t < depth_of p
child_shallower (leaf text) t i e = absurd cc
child_shallower (node label ts) t i e = omega (arith, get_le_deepest ts i t e)

get_or_le_deepest : (ts : Forest) (i : ℕ) (d : WideTree) → i < length (trees ts)
    → depth_of (get_or (trees ts) i d) ≤ deepest ts
get_or_le_deepest nil i d h = absurd (omega arith)
get_or_le_deepest (cons u ts) zero d h = omega arith
get_or_le_deepest (cons u ts) (suc i) d h = omega (arith, get_or_le_deepest ts i d (omega arith))

-- the item of a loop over the children is less deep than their parent
pub item_shallower : (p x : WideTree) (i : ℕ) → i < length (children_of p) → x ≡ get_or (children_of p) i x
    → depth_of x < depth_of p
item_shallower (leaf text) x i h e = absurd (omega arith)
item_shallower (node label ts) x i h e = rw e (omega (arith, get_or_le_deepest ts i x h))

-- the i-th child is the first of what is left
pub drop_item : {X : Type 0} → (xs : List X) (i : ℕ) (x : X) → slice_get xs i ≡ Some x → drop i xs ≡ x ∷ drop (i + 1) xs
drop_item [] i x e = absurd cc
drop_item (y ∷ xs) zero x e = cc
drop_item {X} (y ∷ xs) (suc i) x e =
    let rest : drop i xs ≡ x ∷ drop (i + 1) xs = drop_item {X = X} xs i x e in
    rw add-one (rw add-one at rest)
