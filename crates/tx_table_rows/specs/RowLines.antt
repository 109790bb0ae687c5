-- The rows of a table as lines of a page.
use Rattle.std.specs.Prelude.{◌≡◌, ℕ, ◌<◌, ◌≤◌, List, ◌++◌, length, Some, slice_get}
use Rattle.tx_table.specs.declared.grids.Grid.{Grid}
use Rattle.tx_table.specs.Columns.{across}
use Rattle.tx_items.specs.declared.attributes.Attrs.{Attrs}
use Rattle.tx_items.specs.declared.drawing.Item.{Item}
use Rattle.tx_items.specs.declared.drawing.Paragraph.{Paragraph}
use Rattle.tx_layout.specs.declared.layout.Line.{Line}
use Rattle.tx_layout.specs.Frames.{line_frame, least_width}
use Rattle.tx_layout.specs.OneLine.{one_line}
use Rattle.tx_view_form.specs.Views.{UnitView, AreLines}
use Rattle.tx_view_form.specs.Cells.{row_in}
use Rattle.tx_view_form.specs.TableCells.{CoversColumn}
use Rattle.tx_table_rows.specs.GridRows.{columns_of, sides_at, cells_at, row_shown}

-- the columns and the gaps of 2 between them take at most the least width of the row's lines
abbrev pub RowHasRoom : Attrs → Grid → ℕ → ℕ → Type 0
RowHasRoom a g width i = across (columns_of a g) ≤ least_width (line_frame (row_shown a g i) width)

-- the row as one line
abbrev pub row_line : Attrs → Grid → ℕ → ℕ → Line
row_line a g width i = one_line (row_shown a g i) width

-- these lines are between the lines of the paragraphs before and those of the paragraphs after
pub record AreBetween (width : ℕ) (before after : List Paragraph) (own lines : List Line) : Type 0 where
  pub above : List Line
  pub below : List Line
  pub are : lines ≡ above ++ (own ++ below)
  pub first : AreLines width before above
  pub last : AreLines width after below

-- row i of the table is in one line, which is row r of all, in a unit with this path
pub record IsPageRow (a : Attrs) (g : Grid) (width i : ℕ) (xs : List UnitView) (r : ℕ) (path : List ℕ) : Type 0 where
  pub within : i < length g.rows
  pub room : RowHasRoom a g width i
  pub unit : UnitView
  pub number : ℕ
  pub found : row_in xs r ≡ Some (unit, number)
  pub has_path : unit.path ≡ Some path
  pub line : slice_get unit.lines number ≡ Some (row_line a g width i)

-- an item of cell j of row i covers this column of the page: after the indent of the row, the columns before the j-th
-- with a gap of 2 each, the left pad of the cell, and the items before it in the cell
abbrev pub CellCovers : Attrs → Grid → ℕ → ℕ → ℕ → Item → ℕ → Type 0
CellCovers a g width i j item c =
    CoversColumn (row_shown a g i) width (columns_of a g) (sides_at g i) (cells_at a g i) j item c
