-- How many cells items take on their line.
use Rattle.std.specs.Prelude.{ℕ, List, sum_by}
use Rattle.tx_items.specs.declared.drawing.Item.{Item}
use Rattle.tx_items.specs.declared.drawing.Item.TheVariants.{Glyph, Space, Chance, Gap, Break, PageEnd, Down}

-- the cells that an item takes on its line
abbrev pub item_cells : Item → ℕ
item_cells (Glyph d) = d.cluster.cells
item_cells (Space d) = d.cluster.cells
item_cells (Chance d) = 0
item_cells (Gap n) = n
item_cells Break = 0
item_cells PageEnd = 0
item_cells (Down n) = 0

abbrev pub cells_across : List Item → ℕ
cells_across items = sum_by item_cells items
