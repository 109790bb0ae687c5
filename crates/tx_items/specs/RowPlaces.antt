-- Where the cells of a row are in it.
use Rattle.std.specs.Prelude.{◌≡◌, ℕ, zero, suc, ◌+◌, ◌-◌, ◌≤◌, List, [], ◌∷◌, ◌++◌, get_or}
use Rattle.tx_table.specs.declared.settings.Side.{Side}
use Rattle.tx_table.specs.declared.settings.Side.TheVariants.{Left}
use Rattle.tx_table.specs.Columns.{left_pad}
use Rattle.tx_items.specs.declared.drawing.Item.{Item}
use Rattle.tx_items.specs.Cells.{cells_across}
use Rattle.tx_items.specs.Tables.{row_items}

-- a cell's items are among others, after so many cells
pub record StandsAt (items : List Item) (at : ℕ) (own : List Item) : Type 0 where
  pub front : List Item
  pub back : List Item
  pub are : items ≡ front ++ own ++ back
  pub cells : cells_across front ≡ at

-- the widths of the columns before the j-th, and the gap of 2 after each of them
abbrev pub column_start : List ℕ → ℕ → ℕ
column_start [] j = 0
column_start (n ∷ ns) zero = 0
column_start (n ∷ ns) (suc j) = n + 2 + column_start ns j

-- each cell has a side and a column, and is no wider than it
abbrev pub FitsRow : List ℕ → List Side → List (List Item) → Type 0
FitsRow columns sides [] = Unit {0}
FitsRow [] sides (x ∷ xs) = ⊥
FitsRow (n ∷ ns) [] (x ∷ xs) = ⊥
FitsRow (n ∷ ns) (s ∷ ss) (x ∷ xs) = (cells_across x ≤ n) × FitsRow ns ss xs

-- the items of column j are in order after the columns before it and their left pad
abbrev pub ColumnStands : List ℕ → List Side → List (List Item) → ℕ → List Item → Type 0
ColumnStands columns sides cells j x =
    StandsAt (row_items columns sides cells)
    (column_start columns j + left_pad (get_or sides j Left) (get_or columns j 0 - cells_across x)) x
