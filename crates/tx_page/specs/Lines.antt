-- Which characters of a row show a line of a page.
use Rattle.std.specs.Prelude.{ℕ, ◌+◌, List, [], ◌++◌, length}
use Rattle.std.specs.List.{flat_map}
use Rattle.tx_items.specs.declared.drawing.Item.{Item}
use Rattle.tx_items.specs.declared.drawing.Item.TheVariants.{Glyph, Space, Chance, Gap, Break, PageEnd, Down}
use Rattle.tx_items.specs.declared.drawing.Drawn.{Drawn}
use Rattle.tx_items.specs.Cells.{cells_across}
use Rattle.tx_layout.specs.declared.layout.Line.{Line}
use Rattle.tx_terminal.specs.Inks.{plain}
use Rattle.tx_terminal.specs.Characters.{Shown}
use Rattle.tx_terminal.specs.Painting.{row_cells}
use Rattle.tx_page.specs.Inks.{ink_of}
use Rattle.tx_page.specs.Clusters.{blanks, cluster_characters}

abbrev pub drawn_characters : Drawn → List Shown
drawn_characters d = cluster_characters d.cluster.glyphs d.cluster.cells (ink_of d.look)

-- a cluster in the ink of its text, and a gap as blanks; the others take no cells
abbrev pub item_characters : Item → List Shown
item_characters (Glyph d) = drawn_characters d
item_characters (Space d) = drawn_characters d
item_characters (Chance d) = []
item_characters (Gap n) = blanks n plain
item_characters Break = []
item_characters PageEnd = []
item_characters (Down n) = []

-- the indent as blanks, and the items in order
abbrev pub line_characters : Line → List Shown
line_characters line = blanks line.indent plain ++ flat_map item_characters line.items

-- the cells that a line takes on its page
abbrev pub line_cells : Line → ℕ
line_cells line = line.indent + cells_across line.items

-- the cells that a row of characters takes on a terminal
abbrev pub row_width : List Shown → ℕ
row_width row = length (row_cells row)
