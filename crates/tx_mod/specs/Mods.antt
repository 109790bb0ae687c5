-- Modifications, and edits of lists and trees that they are made of.
use Rattle.std.specs.Prelude.{ℕ, ◌+◌, Bool, true, List, [], ◌∷◌, ◌++◌, length, take, drop, slice_get, slice_set}
use Rattle.std.specs.Option.{option_map_or}
use Rattle.tx_tree.specs.Cuts.{is_cut}
use Rattle.tx_tree.specs.WideTree.{WideTree, leaf, node, forest, trees, children_of}
use Rattle.tx_mod.specs.declared.mods.Mod.{Mod}
use Rattle.tx_mod.specs.declared.mods.Mod.TheVariants.{Assign, Insert, Remove, Split, Join}
use Rattle.tx_mod.specs.declared.mods.Mod.TheVariants.{AssignNode, InsertNode, RemoveNode}

-- the path to what is changed
abbrev pub path_of : Mod → List ℕ
path_of (Assign p x) = p
path_of (Insert p i x) = p
path_of (Remove p i n) = p
path_of (Split p i j) = p
path_of (Join p i) = p
path_of (AssignNode p l) = p
path_of (InsertNode p i x) = p
path_of (RemoveNode p i) = p

-- the label of a node whose children are to be put among others
abbrev pub tuple : List ℕ
tuple = 116 ∷ 117 ∷ 112 ∷ 108 ∷ 101 ∷ []

-- the list with others put in before place i
abbrev pub put_in : {X : Type 0} → List X → ℕ → List X → List X
put_in xs i ys = take i xs ++ ys ++ drop i xs

-- the list with n taken out from place i on
abbrev pub taken_out : {X : Type 0} → List X → ℕ → ℕ → List X
taken_out xs i n = take i xs ++ drop (i + n) xs

-- the n of the list from place i on
abbrev pub slice_of : {X : Type 0} → List X → ℕ → ℕ → List X
slice_of xs i n = take n (drop i xs)

-- how many bytes a leaf has, or children a node
abbrev pub extent : WideTree → ℕ
extent (leaf text) = length text
extent (node label ts) = length (trees ts)

-- no symbol is cut at this place
abbrev pub is_clean : WideTree → ℕ → Bool
is_clean (leaf text) j = is_cut text j
is_clean (node label ts) j = true

-- the tree before place j, and from there on
abbrev pub tree_up_to : WideTree → ℕ → WideTree
tree_up_to (leaf text) j = leaf (take j text)
tree_up_to (node label ts) j = node label (forest (take j (trees ts)))

abbrev pub tree_from : WideTree → ℕ → WideTree
tree_from (leaf text) j = leaf (drop j text)
tree_from (node label ts) j = node label (forest (drop j (trees ts)))

-- the tree with u as child i
abbrev pub with_child_at : WideTree → ℕ → WideTree → WideTree
with_child_at (leaf text) i u = leaf text
with_child_at (node label ts) i u = node label (forest (slice_set (trees ts) i u))

-- the tree with u where the path leads
abbrev pub replaced : WideTree → List ℕ → WideTree → WideTree
replaced t [] u = u
replaced t (i ∷ path) u = option_map_or (λ c. with_child_at t i (replaced c path u)) (slice_get (children_of t) i) t
