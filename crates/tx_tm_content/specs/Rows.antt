-- Trees side by side, which may become the children of one node.
use Rattle.std.specs.Prelude.{◌≡◌, ◌≤◌, ℕ, List, length, Option, Some, None}
use Rattle.tx_tree.specs.declared.TheConstants.{MOST_ARITY, MOST_SIZE}
use Rattle.tx_tree.specs.WideTree.{WideTree, forest, total_size}
use Rattle.tx_tm_content.specs.ContentFits.{RowFits}

-- no more and no bigger than a node within the limits has them
pub record IsRow (ts : List WideTree) (size : ℕ) : Type 0 where
  pub sized : size ≡ total_size (forest ts)
  pub few : length ts ≤ MOST_ARITY
  pub light : size ≤ MOST_SIZE

-- these, or else no node within the limits has them
abbrev pub IsRowed : Option (List WideTree) → List WideTree → Type 0
IsRowed None ts = (around : ℕ) → RowFits around ts → ⊥
IsRowed (Some us) ts = us ≡ ts
