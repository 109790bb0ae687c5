-- Each cell of a row has a side and a column, and no cell is wider than its column or ends a line.
use Rattle.std.proofs.Common.{◌≡◌, ℕ, zero, suc, ◌<◌, Bool, true, false, not, ◌&&◌, ◌||◌, List, [], ◌∷◌}
use Rattle.std.proofs.Common.{map, length, take, get_or, Option, Some, None, refl, sym, ◌∙◌, subst, arith}
use Rattle.std.specs.Prelude.{All, option_and_then, codes, if◌then◌else◌}
use Rattle.std.specs.List.{list_any}
use Rattle.std.specs.Option.{option_map}
use Rattle.std.specs.Str.{bytes_eq}
use Rattle.std.proofs.lemmas.List.Elements.{All-nil, All-cons}
use Rattle.tx_origin.specs.Values.{WideValue, text, made, each_of}
use Rattle.tx_table.specs.declared.grids.Grid.{Grid}
use Rattle.tx_table.specs.declared.settings.Side.{Side}
use Rattle.tx_table.specs.Columns.{wider, column_widths, across}
use Rattle.tx_table.specs.Settings.{parts_if}
use Rattle.tx_table.specs.Grids.{all_some, some_of, only_part, some_parts, row_cells, table_rows, before_last, last_of}
use Rattle.tx_table.specs.Grids.{grid_with, table_grid, format_grid, grid_of}
use Rattle.tx_items.specs.declared.attributes.Attrs.{Attrs}
use Rattle.tx_items.specs.declared.drawing.Item.{Item}
use Rattle.tx_items.specs.declared.drawing.Item.TheVariants.{Glyph, Space, Chance, Gap, Break, PageEnd, Down}
use Rattle.tx_items.specs.Cells.{cells_across}
use Rattle.tx_items.specs.Tables.{is_cut, row_items, row_widths}
use Rattle.tx_items.specs.RowPlaces.{FitsRow}
use Rattle.tx_items.specs.Shows.{Form, inline, listed, run_items, items_in, fits_cell, show}
use Rattle.tx_items.proofs.Below.{AreSome, grid_holds}
use Rattle.tx_layout.specs.Shapes.{is_break, Whole}
use Rattle.tx_table_rows.specs.GridRows.{shown_cells, row_fits, after_cells, grid_rows, rows_fit, after_rows}
use Rattle.tx_table_rows.specs.GridRows.{columns_of, sides_at, cells_at, IsFullRow, IsTable}
use Rattle.tx_table_rows.proofs.Showing.{cells_long}

-- ---- what a grid has

then_some : {X Y : Type 0} (f : X → Option Y) (o : Option X) (y : Y) → option_and_then f o ≡ Some y
    → (x : X) × ((o ≡ Some x) × (f x ≡ Some y))
then_some f None y e = absurd cc
then_some f (Some x) y e = (x, (refl, e))

map_some : {X Y : Type 0} (f : X → Y) (o : Option X) (y : Y) → option_map f o ≡ Some y
    → (x : X) × ((o ≡ Some x) × (f x ≡ y))
map_some f None y e = absurd cc
map_some f (Some x) y e = let same : f x ≡ y = cc in (x, (refl, same))

some_there : {X : Type 0} (us xs : List X) → some_of us ≡ Some xs → 0 < length xs
some_there [] xs e = absurd cc
some_there (u ∷ us) xs e = let same : u ∷ us ≡ xs = cc in rw (← same) (omega arith)

more_some : {X : Type 0} (o : Option X) (os : List (Option X)) (xs : List X) → all_some (o ∷ os) ≡ Some xs
    → 0 < length xs
more_some None os xs e = absurd cc
more_some (Some x) os xs e =
    let p = map_some (λ ys. x ∷ ys) (all_some os) xs e in
    rw (← p.1.1) (omega arith)

all_there : {X : Type 0} (f : WideValue → Option X) (us : List WideValue) (xs : List X)
    → all_some (map f us) ≡ Some xs → 0 < length us → 0 < length xs
all_there f [] xs e h = absurd (omega arith)
all_there f (u ∷ us) xs e h = more_some (f u) (map f us) xs e

rows_there : (v : WideValue) (rows : List (List WideValue)) → table_rows v ≡ Some rows → 0 < length rows
rows_there v rows e =
    let p = then_some (λ vs. all_some (map row_cells vs)) (some_parts (codes "table") v) rows e in
    let q = then_some some_of (parts_if (codes "table") v) p.0 p.1.0 in
    all_there row_cells p.0 rows p.1.1 (some_there q.0 p.0 q.1.1)

grid_there : (sets : List WideValue) (v : WideValue) (g : Grid) → table_grid sets v ≡ Some g → 0 < length g.rows
grid_there sets v g e =
    let p = map_some (grid_with sets) (table_rows v) g e in
    subst (λ x. 0 < length x.rows) p.1.1 (rows_there v p.0 p.1.0)

format_there : (v : WideValue) (g : Grid) → format_grid v ≡ Some g → 0 < length g.rows
format_there (text words at) g e = absurd cc
format_there (made label vs at) g e = pick (bytes_eq label (codes "tformat")) e
  where
    pick : (b : Bool) → (if b then option_and_then (table_grid (before_last (each_of vs))) (last_of (each_of vs))
        else table_grid [] (made label vs at)) ≡ Some g → 0 < length g.rows
    pick true h =
        let p = then_some (table_grid (before_last (each_of vs))) (last_of (each_of vs)) g h in
        grid_there (before_last (each_of vs)) p.0 g p.1.1
    pick false h = grid_there [] (made label vs at) g h

-- a grid has a row
pub has_row : (v : WideValue) (g : Grid) → grid_of v ≡ Some g → 0 < length g.rows
has_row v g e =
    let p = then_some format_grid (only_part (codes "tabular") v) g e in
    format_there p.0 g p.1.1

abbrev IsFull : Grid → Type 0
IsFull g = (map length g.sides ≡ map length g.rows) × AreSome (map length g.rows)

-- each row has a cell, and a side for each cell
pub is_full : (v : WideValue) (g : Grid) → grid_of v ≡ Some g → IsFull g
is_full (text words at) g e = absurd cc
is_full (made label vs at) g e = let h = grid_holds label vs at g e in (h.0, h.2)

-- ---- sides and columns

-- what the law of rows says
abbrev pub TakesColumns : Type 0
TakesColumns =
    (columns : List ℕ) (sides : List Side) (cells : List (List Item)) → FitsRow columns sides cells
    → 0 < length cells → cells_across (row_items columns sides cells) ≡ across columns

sided : (a : Attrs) (rows : List (List WideValue)) (sides : List (List Side)) (i : ℕ)
    → map length sides ≡ map length rows → i < length rows
    → length (get_or sides i []) ≡ length (shown_cells (after_rows a (take i rows)) (get_or rows i []))
sided a [] sides i same h = absurd (omega arith)
sided a (row ∷ rows) [] i same h = absurd cc
sided a (row ∷ rows) (ss ∷ sides) zero same h =
    let long : length ss ≡ length row = cc in
    long ∙ sym (cells_long a row)
sided a (row ∷ rows) (ss ∷ sides) (suc i) same h =
    let others : map length sides ≡ map length rows = cc in
    sided (after_cells a row) rows sides i others (omega arith)

celled : (a : Attrs) (rows : List (List WideValue)) (i : ℕ) → AreSome (map length rows) → i < length rows
    → 0 < length (shown_cells (after_rows a (take i rows)) (get_or rows i []))
celled a [] i some h = absurd (omega arith)
celled a (row ∷ rows) zero some h = omega (arith, cells_long a row, some.0)
celled a (row ∷ rows) (suc i) some h = celled (after_cells a row) rows i some.1 (omega arith)

own_fits : (ss : List Side) (xs : List (List Item)) → length ss ≡ length xs → FitsRow (map cells_across xs) ss xs
own_fits ss [] h = tt
own_fits [] (x ∷ xs) h = absurd (omega arith)
own_fits (s ∷ ss) (x ∷ xs) h = (omega arith, own_fits ss xs (omega arith))

first_fits : (ms : List ℕ) (ss : List Side) (xs : List (List Item)) → length ss ≡ length xs
    → FitsRow (wider (map cells_across xs) ms) ss xs
first_fits ms ss [] h = tt
first_fits ms [] (x ∷ xs) h = absurd (omega arith)
first_fits [] (s ∷ ss) (x ∷ xs) h = own_fits (s ∷ ss) (x ∷ xs) h
first_fits (m ∷ ms) (s ∷ ss) (x ∷ xs) h = (omega arith, first_fits ms ss xs (omega arith))

later_fits : (ws ns : List ℕ) (ss : List Side) (xs : List (List Item)) → FitsRow ns ss xs → FitsRow (wider ws ns) ss xs
later_fits ws ns ss [] h = tt
later_fits ws [] ss (x ∷ xs) h = absurd h
later_fits ws (n ∷ ns) [] (x ∷ xs) h = absurd h
later_fits [] (n ∷ ns) (s ∷ ss) (x ∷ xs) h = h
later_fits (w ∷ ws) (n ∷ ns) (s ∷ ss) (x ∷ xs) h =
    let narrow = h.0 in
    (omega arith, later_fits ws ns ss xs h.1)

columns_fit : (a : Attrs) (rows : List (List WideValue)) (sides : List (List Side)) (i : ℕ)
    → map length sides ≡ map length rows → i < length rows
    → FitsRow (column_widths (row_widths (grid_rows a rows))) (get_or sides i [])
    (shown_cells (after_rows a (take i rows)) (get_or rows i []))
columns_fit a [] sides i same h = absurd (omega arith)
columns_fit a (row ∷ rows) [] i same h = absurd cc
columns_fit a (row ∷ rows) (ss ∷ sides) zero same h =
    let long : length ss ≡ length row = cc in
    first_fits (column_widths (row_widths (grid_rows (after_cells a row) rows))) ss (shown_cells a row)
    (long ∙ sym (cells_long a row))
columns_fit a (row ∷ rows) (ss ∷ sides) (suc i) same h =
    let others : map length sides ≡ map length rows = cc in
    later_fits (map cells_across (shown_cells a row)) (column_widths (row_widths (grid_rows (after_cells a row) rows)))
    (get_or sides i []) (shown_cells (after_rows (after_cells a row) (take i rows)) (get_or rows i []))
    (columns_fit (after_cells a row) rows sides i others (omega arith))

pub row_full : TakesColumns → (a : Attrs) (v : WideValue) (g : Grid) (i : ℕ) → IsTable a v g → i < length g.rows
    → IsFullRow a g i
row_full takes a v g i table h =
    let full = is_full v g table.grid in
    let some = celled a g.rows i full.1 h in
    let fits = columns_fit a g.rows g.sides i full.0 h in
    record {
      some = some;
      sides = sided a g.rows g.sides i full.0 h;
      fits = fits;
      across = takes (columns_of a g) (sides_at g i) (cells_at a g i) fits some;
    }

-- ---- nothing in a cell ends a line

both_true : (x y : Bool) → x && y ≡ true → (x ≡ true) × (y ≡ true)
both_true true y h = (refl, h)
both_true false y h = absurd cc

cut_breaks : (i : Item) → is_break i ≡ is_cut i
cut_breaks (Glyph d) = refl
cut_breaks (Space d) = refl
cut_breaks (Chance d) = refl
cut_breaks (Gap n) = refl
cut_breaks Break = refl
cut_breaks PageEnd = refl
cut_breaks (Down n) = refl

none_whole : (xs : List Item) → not (list_any is_cut xs) ≡ true → All Whole xs
none_whole [] h = All-nil Whole
none_whole (x ∷ xs) h = pick (is_cut x) refl h (λ k. none_whole xs k)
  where
    pick : (b : Bool) → is_cut x ≡ b → not (b || list_any is_cut xs) ≡ true
        → (not (list_any is_cut xs) ≡ true → All Whole xs) → All Whole (x ∷ xs)
    pick true e k rest = absurd cc
    pick false e k rest = All-cons Whole x xs (cut_breaks x ∙ e) (rest k)

form_whole : (f : Form) → fits_cell f ≡ true → All Whole (items_in f)
form_whole (inline r) h = none_whole (run_items r) h
form_whole (listed ps) h = absurd cc

cells_whole : (a : Attrs) (vs : List WideValue) → row_fits a vs ≡ true → All (All Whole) (shown_cells a vs)
cells_whole a [] h = All-nil (All Whole)
cells_whole a (v ∷ vs) h =
    let both = both_true (fits_cell (show a v).form) (row_fits (show a v).after vs) h in
    All-cons (All Whole) (items_in (show a v).form) (shown_cells (show a v).after vs)
    (form_whole (show a v).form both.0) (cells_whole (show a v).after vs both.1)

rows_whole : (a : Attrs) (rows : List (List WideValue)) (i : ℕ) → rows_fit a rows ≡ true → i < length rows
    → All (All Whole) (shown_cells (after_rows a (take i rows)) (get_or rows i []))
rows_whole a [] i fit h = absurd (omega arith)
rows_whole a (row ∷ rows) zero fit h =
    cells_whole a row (both_true (row_fits a row) (rows_fit (after_cells a row) rows) fit).0
rows_whole a (row ∷ rows) (suc i) fit h =
    rows_whole (after_cells a row) rows i (both_true (row_fits a row) (rows_fit (after_cells a row) rows) fit).1
    (omega arith)

pub row_whole : (a : Attrs) (v : WideValue) (g : Grid) (i : ℕ) → IsTable a v g → i < length g.rows
    → All (All Whole) (cells_at a g i)
row_whole a v g i table h = rows_whole a g.rows i table.fits h
