-- What a table shows, row by row.
use Rattle.std.specs.Prelude.{◌≡◌, ℕ, ◌<◌, Bool, true, ◌&&◌, List, [], ◌∷◌, map, length, take, get_or, Some}
use Rattle.std.specs.List.{range_with_len}
use Rattle.tx_origin.specs.Values.{WideValue}
use Rattle.tx_table.specs.declared.grids.Grid.{Grid}
use Rattle.tx_table.specs.declared.settings.Side.{Side}
use Rattle.tx_table.specs.Columns.{column_widths, across}
use Rattle.tx_table.specs.Grids.{grid_of}
use Rattle.tx_items.specs.declared.attributes.Attrs.{Attrs}
use Rattle.tx_items.specs.declared.drawing.Item.{Item}
use Rattle.tx_items.specs.declared.drawing.Paragraph.{Paragraph}
use Rattle.tx_items.specs.Drawing.{paragraph}
use Rattle.tx_items.specs.Cells.{cells_across}
use Rattle.tx_items.specs.RowPlaces.{FitsRow}
use Rattle.tx_items.specs.Tables.{ShownRow, row_widths, row_items}
use Rattle.tx_items.specs.Shows.{show, items_in, fits_cell}

-- ---- cells, each with the attributes after the one before it

-- what each shows
abbrev pub shown_cells : Attrs → List WideValue → List (List Item)
shown_cells a [] = []
shown_cells a (v ∷ vs) = items_in (show a v).form ∷ shown_cells (show a v).after vs

-- each shows in a line that nothing ends
abbrev pub row_fits : Attrs → List WideValue → Bool
row_fits a [] = true
row_fits a (v ∷ vs) = fits_cell (show a v).form && row_fits (show a v).after vs

abbrev pub after_cells : Attrs → List WideValue → Attrs
after_cells a [] = a
after_cells a (v ∷ vs) = after_cells (show a v).after vs

-- ---- rows of cells

-- the attributes before each, and what its cells show
abbrev pub grid_rows : Attrs → List (List WideValue) → List ShownRow
grid_rows a [] = []
grid_rows a (row ∷ rows) = (a, shown_cells a row) ∷ grid_rows (after_cells a row) rows

abbrev pub rows_fit : Attrs → List (List WideValue) → Bool
rows_fit a [] = true
rows_fit a (row ∷ rows) = row_fits a row && rows_fit (after_cells a row) rows

abbrev pub after_rows : Attrs → List (List WideValue) → Attrs
after_rows a [] = a
after_rows a (row ∷ rows) = after_rows (after_cells a row) rows

-- ---- the table of a grid, where these are the attributes before it

-- the width of each column: the greatest natural width in it
abbrev pub columns_of : Attrs → Grid → List ℕ
columns_of a g = column_widths (row_widths (grid_rows a g.rows))

-- the attributes before row i
abbrev pub attrs_before : Attrs → Grid → ℕ → Attrs
attrs_before a g i = after_rows a (take i g.rows)

-- what its cells show
abbrev pub cells_at : Attrs → Grid → ℕ → List (List Item)
cells_at a g i = shown_cells (attrs_before a g i) (get_or g.rows i [])

-- the sides of its cells
abbrev pub sides_at : Grid → ℕ → List Side
sides_at g i = get_or g.sides i []

-- its paragraph: the cells between their pads, in the columns of the table
abbrev pub row_shown : Attrs → Grid → ℕ → Paragraph
row_shown a g i = paragraph (row_items (columns_of a g) (sides_at g i) (cells_at a g i)) (attrs_before a g i)

-- a paragraph for each row, in order
abbrev pub all_rows : Attrs → Grid → List Paragraph
all_rows a g = map (row_shown a g) (range_with_len 0 (length g.rows))

-- Row i has a cell, a side for each cell, and for each cell a column that is no narrower. It takes the cells of all
-- columns and of a gap of 2 between them.
pub record IsFullRow (a : Attrs) (g : Grid) (i : ℕ) : Type 0 where
  pub some : 0 < length (cells_at a g i)
  pub sides : length (sides_at g i) ≡ length (cells_at a g i)
  pub fits : FitsRow (columns_of a g) (sides_at g i) (cells_at a g i)
  pub across : cells_across (row_shown a g i).items ≡ across (columns_of a g)

-- the value is a `tabular` with this grid, and its cells fit
pub record IsTable (a : Attrs) (v : WideValue) (g : Grid) : Type 0 where
  pub grid : grid_of v ≡ Some g
  pub fits : rows_fit a g.rows ≡ true
