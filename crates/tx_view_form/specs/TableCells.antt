-- Where the cells of a table are on a line.
use Rattle.std.specs.Prelude.{◌≡◌, ℕ, ◌+◌, ◌-◌, ◌<◌, ◌≤◌, List, ◌∷◌, ◌++◌, length, get_or, All, Some, slice_get}
use Rattle.tx_table.specs.declared.settings.Side.{Side}
use Rattle.tx_table.specs.declared.settings.Side.TheVariants.{Left}
use Rattle.tx_table.specs.Columns.{left_pad, across}
use Rattle.tx_items.specs.declared.drawing.Item.{Item}
use Rattle.tx_items.specs.declared.drawing.Paragraph.{Paragraph}
use Rattle.tx_items.specs.Cells.{item_cells, cells_across}
use Rattle.tx_items.specs.Tables.{row_items}
use Rattle.tx_items.specs.RowPlaces.{column_start, FitsRow}
use Rattle.tx_layout.specs.Frames.{line_frame, least_width}
use Rattle.tx_layout.specs.Shapes.{Whole}
use Rattle.tx_layout.specs.OneLine.{one_line}

-- the paragraph is a row of a table, of these cells, and its columns have room side by side
pub record IsTableRow (p : Paragraph) (width : ℕ) (columns : List ℕ) (sides : List Side) (cells : List (List Item))
    : Type 0 where
  pub made : p.items ≡ row_items columns sides cells
  pub some : 0 < length cells
  pub fits : FitsRow columns sides cells
  pub whole : All (All Whole) cells
  pub narrow : across columns ≤ least_width (line_frame p width)

-- where what a cell shows begins: after the indent, the columns before it with a gap of 2 each, and its left pad
abbrev pub cell_start : Paragraph → ℕ → List ℕ → List Side → ℕ → List Item → ℕ
cell_start p width columns sides j cell =
    (one_line p width).indent
    + (column_start columns j + left_pad (get_or sides j Left) (get_or columns j 0 - cells_across cell))

-- the item is between others in the j-th cell, and covers this column of the page
pub record CoversColumn (p : Paragraph) (width : ℕ) (columns : List ℕ) (sides : List Side) (cells : List (List Item))
    (j : ℕ) (item : Item) (c : ℕ) : Type 0 where
  pub cell : List Item
  pub front : List Item
  pub back : List Item
  pub there : slice_get cells j ≡ Some cell
  pub among : cell ≡ front ++ item ∷ back
  pub from : cell_start p width columns sides j cell + cells_across front ≤ c
  pub before : c < cell_start p width columns sides j cell + cells_across front + item_cells item
