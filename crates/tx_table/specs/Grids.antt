-- The grid of a `tabular`: its cells row by row, and the side of each.
use Rattle.std.specs.Prelude.{ℕ, max, List, [], ◌∷◌, map, length, Option, Some, None, option_and_then}
use Rattle.std.specs.Prelude.{if◌then◌else◌, codes}
use Rattle.std.specs.Str.{bytes_eq}
use Rattle.std.specs.Option.{option_map}
use Rattle.tx_origin.specs.Values.{WideValue, text, made, each_of}
use Rattle.tx_table.specs.declared.grids.Grid.{Grid}
use Rattle.tx_table.specs.Settings.{parts_if, settings_in, sides_of}

-- all of them, or None where one is missing
abbrev pub all_some : {X : Type 0} → List (Option X) → Option (List X)
all_some [] = Some []
all_some (None ∷ os) = None
all_some (Some x ∷ os) = option_map (λ xs. x ∷ xs) (all_some os)

-- a list with something in it
abbrev pub some_of : {X : Type 0} → List X → Option (List X)
some_of [] = None
some_of (x ∷ xs) = Some (x ∷ xs)

-- the one of a list
abbrev pub one_of : {X : Type 0} → List X → Option X
one_of [] = None
one_of (v ∷ []) = Some v
one_of (v ∷ (w ∷ ws)) = None

-- the one part of a node with this label
abbrev pub only_part : List ℕ → WideValue → Option WideValue
only_part label v = option_and_then one_of (parts_if label v)

-- the one child of a `cell`
abbrev pub cell_value : WideValue → Option WideValue
cell_value v = only_part (codes "cell") v

-- the parts of a node with this label that has one or more
abbrev pub some_parts : List ℕ → WideValue → Option (List WideValue)
some_parts label v = option_and_then some_of (parts_if label v)

-- the cells of a `row` that has a child, where each child is a `cell` with one child
abbrev pub row_cells : WideValue → Option (List WideValue)
row_cells v = option_and_then (λ vs. all_some (map cell_value vs)) (some_parts (codes "row") v)

-- the rows of a `table` that has a child, where each child is such a `row`
abbrev pub table_rows : WideValue → Option (List (List WideValue))
table_rows v = option_and_then (λ vs. all_some (map row_cells vs)) (some_parts (codes "table") v)

-- the greatest number of cells of a row
abbrev pub column_count : List (List WideValue) → ℕ
column_count [] = 0
column_count (row ∷ rows) = max (length row) (column_count rows)

-- those before the last, and the last
abbrev pub before_last : List WideValue → List WideValue
before_last [] = []
before_last (v ∷ []) = []
before_last (v ∷ (w ∷ ws)) = v ∷ before_last (w ∷ ws)

abbrev pub last_of : List WideValue → Option WideValue
last_of [] = None
last_of (v ∷ []) = Some v
last_of (v ∷ (w ∷ ws)) = last_of (w ∷ ws)

-- the grid of these rows, in which these values set sides
abbrev pub grid_with : List WideValue → List (List WideValue) → Grid
grid_with vs rows =
    record { rows = rows; sides = sides_of (settings_in (length rows) (column_count rows) vs) rows }

-- the grid of a `table`, in which these values set sides
abbrev pub table_grid : List WideValue → WideValue → Option Grid
table_grid vs table = option_map (grid_with vs) (table_rows table)

-- the grid of the one child of a `tabular`: of a `table`, or of a `tformat` whose last child is a `table`
abbrev pub format_grid : WideValue → Option Grid
format_grid (text words at) = None
format_grid (made label vs at) =
    if bytes_eq label (codes "tformat")
    then option_and_then (table_grid (before_last (each_of vs))) (last_of (each_of vs))
    else table_grid [] (made label vs at)

-- the grid of a `tabular`, or None where the value isn't one of the asked form
abbrev pub grid_of : WideValue → Option Grid
grid_of v = option_and_then format_grid (only_part (codes "tabular") v)
