-- The rows of a table as paragraphs, and where its cells are in a value.
use Rattle.std.specs.Prelude.{ℕ, zero, suc, ◌+◌, ◌-◌, Bool, true, false, List, [], ◌∷◌, ◌++◌, map, if◌then◌else◌, codes}
use Rattle.std.specs.Str.{bytes_eq}
use Rattle.tx_origin.specs.Values.{WideValue, WideValues, text, made, none, also}
use Rattle.tx_table.specs.declared.settings.Side.{Side}
use Rattle.tx_table.specs.Columns.{column_widths, left_pad, right_pad, across}
use Rattle.tx_items.specs.declared.attributes.Attrs.{Attrs}
use Rattle.tx_items.specs.declared.drawing.Item.{Item}
use Rattle.tx_items.specs.declared.drawing.Item.TheVariants.{Glyph, Space, Chance, Gap, Break, PageEnd, Down}
use Rattle.tx_items.specs.declared.drawing.Paragraph.{Paragraph}
use Rattle.tx_items.specs.Cells.{cells_across}
use Rattle.tx_items.specs.Drawing.{paragraph}

-- it ends a line or a page
abbrev pub is_cut : Item → Bool
is_cut (Glyph d) = false
is_cut (Space d) = false
is_cut (Chance d) = false
is_cut (Gap n) = false
is_cut Break = true
is_cut PageEnd = true
is_cut (Down n) = true

-- ---- rows

-- one gap for all columns in which a row has no cell, and the gap of 2 before each of them
abbrev pub missing_gap : List ℕ → List Item
missing_gap [] = []
missing_gap (n ∷ ns) = Gap (2 + across (n ∷ ns)) ∷ []

-- a cell between its pads, in a column of this width
abbrev pub cell_items : Side → ℕ → List Item → List Item
cell_items side width items =
    let free = width - cells_across items in
    Gap (left_pad side free) ∷ (items ++ Gap (right_pad side free) ∷ [])

-- a gap comes before each cell but the first
abbrev pub gap_before : ℕ → List Item
gap_before zero = []
gap_before (suc j) = Gap 2 ∷ []

-- the cells of a row from the j-th on, and the missing ones
abbrev pub row_from : ℕ → List ℕ → List Side → List (List Item) → List Item
row_from j columns sides [] = missing_gap columns
row_from j (n ∷ ns) (s ∷ ss) (x ∷ xs) = gap_before j ++ cell_items s n x ++ row_from (j + 1) ns ss xs
row_from j columns sides (x ∷ xs) = []

-- a row, in columns of these widths, with a side for each cell
abbrev pub row_items : List ℕ → List Side → List (List Item) → List Item
row_items columns sides cells = row_from 0 columns sides cells

-- the attributes before the first cell of a row, and what its cells show
abbrev pub ShownRow : Type 0
ShownRow = Attrs × List (List Item)

-- the natural widths
abbrev pub row_widths : List ShownRow → List (List ℕ)
row_widths rows = map (λ r. map cells_across r.1) rows

abbrev pub row_paragraphs : List ℕ → List (List Side) → List ShownRow → List Paragraph
row_paragraphs columns (sides ∷ others) (row ∷ rows) =
    paragraph (row_items columns sides row.1) row.0 ∷ row_paragraphs columns others rows
row_paragraphs columns sides rows = []

abbrev pub table_paragraphs : List (List Side) → List ShownRow → List Paragraph
table_paragraphs sides rows = row_paragraphs (column_widths (row_widths rows)) sides rows

-- ---- where the cells are

-- which parts of a node lead on to their parts
pub data Level : Type 0 where
  Every : Level
  -- the last one alone
  Final : Level

-- from the parts of a `tabular` down to what is in its cells: through the `table` with its rows and their cells, or
-- through a `tformat`, whose last part is the `table`
abbrev pub levels_of : WideValues → List Level
levels_of none = []
levels_of (also (text words at) vs) = []
levels_of (also (made label ws at) vs) =
    if bytes_eq label (codes "tformat") then Every ∷ (Final ∷ (Every ∷ (Every ∷ [])))
    else Every ∷ (Every ∷ (Every ∷ []))
