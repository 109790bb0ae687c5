-- Where parts are in their tree.
use Rattle.std.specs.Prelude.{◌≡◌, ℕ, List, ◌++◌, Some}
use Rattle.tx_tree.specs.WideTree.{WideTree}
use Rattle.tx_tree.specs.Paths.{subtree}
use Rattle.tx_parts.specs.Parts.{Part}

-- The part's path begins with that of the whole, and the rest of it leads to the part's tree.
pub record StandsIn (path : List ℕ) (t : WideTree) (p : Part) : Type 0 where
  pub below : List ℕ
  pub path_is : p.path ≡ path ++ below
  pub leads : subtree t below ≡ Some p.tree
