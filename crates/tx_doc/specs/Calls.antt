-- How calls are left out one after the other: what holds of the label and the children in hand.
use Rattle.std.specs.Prelude.{◌≡◌, ◌≤◌, ℕ, List, ◌∷◌, length, map, Option, Some, None}
use Rattle.tx_tree.specs.Labels.{IsLabel}
use Rattle.tx_tree.specs.WideTree.{WideTree, leaf, node, forest, total_nodes, deepest}
use Rattle.tx_doc.specs.Modern.{called, without_calls}

-- the node of this label, these children without calls
abbrev pub node_without : List ℕ → List WideTree → WideTree
node_without label children = called label (forest (map without_calls children))

-- the macro that the first child names, whatever the other children are
abbrev pub IsNamed : List ℕ → WideTree → Option (List ℕ) → Type 0
IsNamed label first None = (others : List WideTree)
    → node_without label (first ∷ others) ≡ node label (forest (map without_calls (first ∷ others)))
IsNamed label first (Some name) = (first ≡ leaf name)
    × ((others : List WideTree) → node_without label (first ∷ others) ≡ node_without name others)

-- what is left of a node when calls are left out: its label, and its last children
pub record IsCalled (label : List ℕ) (children : List WideTree) (name : List ℕ) (others : List WideTree) : Type 0 where
  pub made : node_without label children ≡ node name (forest (map without_calls others))
  pub named : IsLabel name
  pub nodes : total_nodes (forest others) ≤ total_nodes (forest children)
  pub depth : deepest (forest others) ≤ deepest (forest children)
  pub same : length others ≡ length children → (name ≡ label) × (others ≡ children)
