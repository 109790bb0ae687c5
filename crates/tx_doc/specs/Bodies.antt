-- The body of a buffer.
use Rattle.std.specs.Prelude.{ℕ, Bool, false, if◌then◌else◌, List, [], ◌∷◌, codes}
use Rattle.std.specs.Prelude.{Option, Some, option_map, option_and_then, slice_get}
use Rattle.std.specs.Option.{option_map_or}
use Rattle.std.specs.List.{position}
use Rattle.std.specs.Str.{bytes_eq}
use Rattle.tx_tree.specs.WideTree.{WideTree, leaf, node, children_of}

-- the tree is a node with this label
abbrev pub is_labelled : List ℕ → WideTree → Bool
is_labelled label (leaf text) = false
is_labelled label (node l ts) = bytes_eq l label

abbrev pub is_body : WideTree → Bool
is_body t = is_labelled (codes "body") t

-- the path to child 0 of child i, if that has a child
abbrev pub first_in : WideTree → ℕ → Option (List ℕ)
first_in t i =
    option_and_then (λ c. option_map (λ _. i ∷ 0 ∷ []) (slice_get (children_of c) 0)) (slice_get (children_of t) i)

-- The path to the body: the first child of the first `body` of a `document` that has one, and of every other tree the
-- tree itself. A `body` without a child gives none.
abbrev pub body_of : WideTree → Option (List ℕ)
body_of t =
    if is_labelled (codes "document") t
    then option_map_or (first_in t) (position is_body (children_of t)) (Some [])
    else Some []
