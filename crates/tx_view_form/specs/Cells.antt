-- What is at a row and a column.
use Rattle.std.specs.Prelude.{ℕ, ◌+◌, ◌-◌, nat_lt, nat_le, List, [], ◌∷◌, length, Option, Some, None, option_and_then}
use Rattle.std.specs.Prelude.{slice_get, if◌then◌else◌}
use Rattle.tx_items.specs.declared.drawing.Drawn.{Drawn}
use Rattle.tx_items.specs.declared.drawing.Item.{Item}
use Rattle.tx_items.specs.declared.drawing.Item.TheVariants.{Glyph, Space, Chance, Gap, Break, PageEnd, Down}
use Rattle.tx_layout.specs.declared.layout.Line.{Line}
use Rattle.tx_items.specs.Cells.{item_cells}
use Rattle.tx_view_form.specs.Views.{UnitView}

-- the unit that a row of all is in, and the number of the row in it
abbrev pub row_in : List UnitView → ℕ → Option (UnitView × ℕ)
row_in [] r = None
row_in (x ∷ xs) r = if nat_lt r (length x.lines) then Some (x, r) else row_in xs (r - length x.lines)

-- how many items end at a column or before it, where they begin at another
abbrev pub items_before : ℕ → List Item → ℕ → ℕ
items_before from [] c = 0
items_before from (x ∷ xs) c =
    if nat_le (from + item_cells x) c then 1 + items_before (from + item_cells x) xs c else 0

-- the number of the item that covers a column of a line, or of the first after it
abbrev pub item_number : Line → ℕ → ℕ
item_number line c = items_before line.indent line.items c

-- the item that covers a column
abbrev pub item_at : Line → ℕ → Option Item
item_at line c = if nat_lt c line.indent then None else slice_get line.items (item_number line c)

abbrev pub drawn_in : Item → Option Drawn
drawn_in (Glyph d) = Some d
drawn_in (Space d) = Some d
drawn_in (Chance d) = Some d
drawn_in (Gap n) = None
drawn_in Break = None
drawn_in PageEnd = None
drawn_in (Down n) = None

-- the cluster that covers a column
abbrev pub drawn_at : Line → ℕ → Option Drawn
drawn_at line c = option_and_then drawn_in (item_at line c)
