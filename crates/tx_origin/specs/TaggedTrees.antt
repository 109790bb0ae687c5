-- Trees with origins, and their children.
use Rattle.std.specs.Prelude.{ℕ, ◌+◌, List, [], ◌∷◌, Option}
use Rattle.tx_tree.specs.WideTree.{WideTree, Forest, leaf, node, nil, cons}
use Rattle.tx_origin.specs.Values.{child_at}
use Rattle.tx_origin.specs.declared.tagged.Tagged.{Tagged}

pub record TaggedTree : Type 0 where
  pub tree : WideTree
  pub at : Option (List ℕ)

abbrev pub kids_from : Option (List ℕ) → ℕ → Forest → List TaggedTree
kids_from at i nil = []
kids_from at i (cons t ts) = record { tree = t; at = child_at at i } ∷ kids_from at (i + 1) ts

abbrev pub kids_at : Option (List ℕ) → WideTree → List TaggedTree
kids_at at (leaf words) = []
kids_at at (node label ts) = kids_from at 0 ts

abbrev pub kids_of : TaggedTree → List TaggedTree
kids_of t = kids_at t.at t.tree

abbrev pub tagged_of : Tagged → TaggedTree
tagged_of t = record { tree = t.tree; at = t.at }
