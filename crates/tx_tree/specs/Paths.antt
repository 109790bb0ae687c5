-- Paths: the numbers of the children on a way down from the root.
use Rattle.std.specs.Prelude.{ℕ, ◌+◌, List, [], ◌∷◌, Option, Some, option_and_then, slice_get}
use Rattle.std.specs.Option.{option_map_or}
use Rattle.tx_tree.specs.WideTree.{WideTree, children_of}

-- the subtree that the path leads to
abbrev pub subtree : WideTree → List ℕ → Option WideTree
subtree t [] = Some t
subtree t (i ∷ path) = option_and_then (λ u. subtree u path) (slice_get (children_of t) i)

-- how many numbers of the path lead to a child, up to the first that doesn't
abbrev pub leading : WideTree → List ℕ → ℕ
leading t [] = 0
leading t (i ∷ path) = option_map_or (λ u. 1 + leading u path) (slice_get (children_of t) i) 0
