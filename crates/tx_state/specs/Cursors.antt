-- Where the cursor is at first.
use Rattle.std.specs.Prelude.{ℕ, ◌+◌, List, [], ◌∷◌, ◌++◌, Option, Some, None, unwrap_or}
use Rattle.std.specs.Option.{option_map_or}
use Rattle.tx_tree.specs.WideTree.{WideTree, Forest, leaf, node, nil, cons}
use Rattle.tx_tree.specs.Paths.{subtree}
use Rattle.tx_tree.specs.declared.places.Place.{Place}
use Rattle.tx_doc.specs.Bodies.{body_of}

-- the path down to the first leaf, in the order in which the leaves are written
abbrev mutual
  pub first_leaf : WideTree → Option (List ℕ)
  first_leaf (leaf text) = Some []
  first_leaf (node label ts) = first_leaf_from 0 ts

  -- the path to the first leaf among trees, of which the first one is child k
  pub first_leaf_from : ℕ → Forest → Option (List ℕ)
  first_leaf_from k nil = None
  first_leaf_from k (cons t ts) = option_map_or (λ path. Some (k ∷ path)) (first_leaf t) (first_leaf_from (k + 1) ts)

abbrev pub place_before : List ℕ → Place
place_before path = record { path = path; offset = 0 }

-- before the first leaf of the subtree at this path, or before the subtree where it has no leaf
abbrev pub cursor_in : WideTree → List ℕ → Place
cursor_in t path = place_before (path ++ option_map_or (λ s. unwrap_or (first_leaf s) []) (subtree t path) [])

-- before the first leaf of the body, or the body; before the root where there is no body
abbrev pub first_cursor : WideTree → Place
first_cursor t = option_map_or (cursor_in t) (body_of t) (place_before [])
