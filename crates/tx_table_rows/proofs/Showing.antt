-- A `tabular` with a grid shows its rows.
use Rattle.std.proofs.Common.{◌≡◌, ℕ, zero, suc, ◌+◌, Bool, true, false, ◌&&◌, cond, List, [], ◌∷◌, ◌++◌, map, length}
use Rattle.std.proofs.Common.{take, drop, get_or, Option, Some, None, refl, sym, ap, ap₂, ◌∙◌, arith}
use Rattle.std.specs.Prelude.{codes, option_and_then, if◌then◌else◌}
use Rattle.std.specs.List.{range_with_len}
use Rattle.std.specs.Str.{bytes_eq}
use Rattle.std.proofs.lemmas.Slice.Eq.{bytes_eq-Decides}
use Rattle.tx_origin.specs.Values.{WideValue, WideValues, text, made, vals, each_of}
use Rattle.tx_table.specs.declared.grids.Grid.{Grid}
use Rattle.tx_table.specs.declared.settings.Side.{Side}
use Rattle.tx_table.specs.Grids.{one_of, format_grid, grid_of}
use Rattle.tx_items.specs.declared.attributes.Attrs.{Attrs}
use Rattle.tx_items.specs.declared.drawing.Paragraph.{Paragraph}
use Rattle.tx_items.specs.Drawing.{paragraph}
use Rattle.tx_items.specs.Tables.{ShownRow, levels_of, row_items, row_paragraphs, table_paragraphs}
use Rattle.tx_items.specs.Rules.{rule_of}
use Rattle.tx_items.specs.Rules as rules
use Rattle.tx_items.specs.Running.{all_cells}
use Rattle.tx_items.specs.Shows.{Form, listed, Shown, AllShown, both_shown, items_in, fits_cell, after_each, bad}
use Rattle.tx_items.specs.Shows.{tabular_shown, rule_shown, show, show_all, show_with, show_below}
use Rattle.tx_items.specs.Shows as shows
use Rattle.tx_items.proofs.Below.{all_nothing, all_first, all_append, each_length, below_all, grid_holds}
use Rattle.tx_table_rows.specs.GridRows.{shown_cells, row_fits, after_cells, grid_rows, rows_fit, after_rows}
use Rattle.tx_table_rows.specs.GridRows.{columns_of, all_rows}

-- ---- cells, one after the other

cells_each : (a : Attrs) (vs : List WideValue)
    → map (λ f. items_in f.0) (show_all false a (vals vs)).each ≡ shown_cells a vs
cells_each a [] = ap (λ x. map (λ f. items_in f.0) x.each) (all_nothing a)
cells_each a (v ∷ vs) =
    ap (λ x. map (λ f. items_in f.0) x.each) (all_first a v (vals vs))
    ∙ ap (λ xs. items_in (show a v).form ∷ xs) (cells_each (show a v).after vs)

after_all : (a : Attrs) (vs : List WideValue) → (show_all false a (vals vs)).after ≡ after_cells a vs
after_all a [] = ap (λ x. x.after) (all_nothing a)
after_all a (v ∷ vs) = ap (λ x. x.after) (all_first a v (vals vs)) ∙ after_all (show a v).after vs

after_them : (a : Attrs) (vs : List WideValue) → after_each a (show_all false a (vals vs)).each ≡ after_cells a vs
after_them a [] = ap (λ x. after_each a x.each) (all_nothing a)
after_them a (v ∷ vs) =
    ap (λ x. after_each a x.each) (all_first a v (vals vs)) ∙ after_them (show a v).after vs

fit_all : (a : Attrs) (vs : List WideValue) → shows.cells_fit (show_all false a (vals vs)).each ≡ row_fits a vs
fit_all a [] = ap (λ x. shows.cells_fit x.each) (all_nothing a)
fit_all a (v ∷ vs) =
    ap (λ x. shows.cells_fit x.each) (all_first a v (vals vs))
    ∙ ap (λ b. fits_cell (show a v).form && b) (fit_all (show a v).after vs)

pub cells_long : (a : Attrs) (vs : List WideValue) → length (shown_cells a vs) ≡ length vs
cells_long a [] = refl
cells_long a (v ∷ vs) = omega (arith, cells_long (show a v).after vs)

-- ---- rows of cells

and_assoc : (x y z : Bool) → x && (y && z) ≡ (x && y) && z
and_assoc true y z = refl
and_assoc false y z = refl

fit_append : (xs ys : List (Form × Attrs)) → shows.cells_fit (xs ++ ys) ≡ shows.cells_fit xs && shows.cells_fit ys
fit_append [] ys = refl
fit_append (x ∷ xs) ys =
    ap (λ b. fits_cell x.0 && b) (fit_append xs ys)
    ∙ and_assoc (fits_cell x.0) (shows.cells_fit xs) (shows.cells_fit ys)

fits_all : (a : Attrs) (rows : List (List WideValue))
    → shows.cells_fit (show_all false a (vals (all_cells rows))).each ≡ rows_fit a rows
fits_all a [] = ap (λ x. shows.cells_fit x.each) (all_nothing a)
fits_all a (row ∷ rows) =
    let x : AllShown = show_all false a (vals row) in
    let y : Attrs → AllShown = λ b. show_all false b (vals (all_cells rows)) in
    ap (λ z. shows.cells_fit z.each) (all_append a row (all_cells rows))
    ∙ fit_append x.each (y x.after).each
    ∙ ap₂ ◌&&◌ (fit_all a row)
    (ap (λ b. shows.cells_fit (y b).each) (after_all a row) ∙ fits_all (after_cells a row) rows)

take_front : {X : Type 0} (n : ℕ) (xs ys : List X) → length xs ≡ n → take n (xs ++ ys) ≡ xs
take_front zero [] ys h = refl
take_front zero (x ∷ xs) ys h = absurd (omega arith)
take_front (suc n) [] ys h = absurd (omega arith)
take_front (suc n) (x ∷ xs) ys h = ap (λ zs. x ∷ zs) (take_front n xs ys (omega arith))

drop_front : {X : Type 0} (n : ℕ) (xs ys : List X) → length xs ≡ n → drop n (xs ++ ys) ≡ ys
drop_front zero [] ys h = refl
drop_front zero (x ∷ xs) ys h = absurd (omega arith)
drop_front (suc n) [] ys h = absurd (omega arith)
drop_front (suc n) (x ∷ xs) ys h = drop_front n xs ys (omega arith)

rows_split : (n : ℕ) (ns : List ℕ) (a : Attrs) (x y : List (Form × Attrs)) → length x ≡ n
    → shows.shown_rows (n ∷ ns) a (x ++ y) ≡ (a, map (λ f. items_in f.0) x) ∷ shows.shown_rows ns (after_each a x) y
rows_split n ns a x y h =
    ap₂ {C = List ShownRow} (λ t d. (a, map (λ f. items_in f.0) t) ∷ shows.shown_rows ns (after_each a t) d)
    (take_front n x y h) (drop_front n x y h)

rows_each : (a : Attrs) (rows : List (List WideValue))
    → shows.shown_rows (map length rows) a (show_all false a (vals (all_cells rows))).each ≡ grid_rows a rows
rows_each a [] = refl
rows_each a (row ∷ rows) =
    let x : AllShown = show_all false a (vals row) in
    let y : Attrs → AllShown = λ b. show_all false b (vals (all_cells rows)) in
    let ns : List ℕ = map length rows in
    ap (λ z. shows.shown_rows (length row ∷ ns) a z.each) (all_append a row (all_cells rows))
    ∙ rows_split (length row) ns a x.each (y x.after).each (each_length a row)
    ∙ ap₂ {C = List ShownRow} (λ cells b. (a, cells) ∷ shows.shown_rows ns b (y x.after).each) (cells_each a row)
    (after_them a row)
    ∙ ap {B = List ShownRow} (λ b. (a, shown_cells a row) ∷ shows.shown_rows ns (after_cells a row) (y b).each)
    (after_all a row)
    ∙ ap {B = List ShownRow} (λ rs. (a, shown_cells a row) ∷ rs) (rows_each (after_cells a row) rows)

-- ---- rows as paragraphs

range_later : {X : Type 0} (f : ℕ → X) (k n : ℕ)
    → map f (range_with_len (k + 1) n) ≡ map (λ i. f (suc i)) (range_with_len k n)
range_later f k zero = refl
range_later f k (suc n) =
    let place : k + 1 ≡ suc k = omega arith in
    ap₂ (λ x xs. x ∷ xs) (ap f place) (range_later f (k + 1) n)

range_first : {X Y : Type 0} (f : ℕ → X) (y : Y) (ys : List Y)
    → map f (range_with_len 0 (length (y ∷ ys))) ≡ f 0 ∷ map (λ i. f (suc i)) (range_with_len 0 (length ys))
range_first f y ys =
    let long : length (y ∷ ys) ≡ suc (length ys) = omega arith in
    ap (λ n. map f (range_with_len 0 n)) long ∙ ap (λ xs. f 0 ∷ xs) (range_later f 0 (length ys))

abbrev row_of : List ℕ → List (List Side) → Attrs → List (List WideValue) → ℕ → Paragraph
row_of columns sides a rows i =
    paragraph (row_items columns (get_or sides i []) (shown_cells (after_rows a (take i rows)) (get_or rows i [])))
    (after_rows a (take i rows))

rows_are : (columns : List ℕ) (sides : List (List Side)) (a : Attrs) (rows : List (List WideValue))
    → map length sides ≡ map length rows
    → row_paragraphs columns sides (grid_rows a rows)
    ≡ map (row_of columns sides a rows) (range_with_len 0 (length rows))
rows_are columns [] a [] h = refl
rows_are columns (ss ∷ sides) a [] h = absurd cc
rows_are columns [] a (row ∷ rows) h = absurd cc
rows_are columns (ss ∷ sides) a (row ∷ rows) h =
    let others : map length sides ≡ map length rows = cc in
    let first : Paragraph = paragraph (row_items columns ss (shown_cells a row)) a in
    ap (λ ps. first ∷ ps) (rows_are columns sides (after_cells a row) rows others)
    ∙ sym (range_first (row_of columns (ss ∷ sides) a (row ∷ rows)) row rows)

-- ---- `tabular`

tabular_rule : (label : List ℕ) → label ≡ codes "tabular" → rule_of label ≡ rules.Tabular
unfolding rule_of
tabular_rule label e = ap rule_of e

grid_label : (label : List ℕ) (vs : WideValues) (at : Option (List ℕ)) (g : Grid)
    → grid_of (made label vs at) ≡ Some g → label ≡ codes "tabular"
grid_label label vs at g e = pick (bytes_eq label (codes "tabular")) refl e
  where
    pick : (b : Bool) → bytes_eq label (codes "tabular") ≡ b
        → option_and_then format_grid (option_and_then one_of (if b then Some (each_of vs) else None)) ≡ Some g
        → label ≡ codes "tabular"
    pick true is h = (bytes_eq-Decides label (codes "tabular")).0 is
    pick false is h = absurd cc

tabular_is : (a : Attrs) (label : List ℕ) (vs : WideValues) (at : Option (List ℕ)) (g : Grid)
    → grid_of (made label vs at) ≡ Some g
    → show a (made label vs at) ≡ tabular_shown a label (Some g) (show_below (levels_of vs) a vs)
unfolding show
tabular_is a label vs at g e =
    let cells : AllShown = show_below (levels_of vs) a vs in
    ap
    (λ r.
    rule_shown r a label vs (λ barred. show_all barred a vs) (show_with a a vs)
    (tabular_shown a label (grid_of (made label vs at)) cells))
    (tabular_rule label (grid_label label vs at g e))
    ∙ ap (λ o. tabular_shown a label o cells) e

paragraphs_are : (a : Attrs) (g : Grid) → map length g.sides ≡ map length g.rows
    → row_paragraphs (columns_of a g) g.sides (grid_rows a g.rows) ≡ all_rows a g
paragraphs_are a g h = rows_are (columns_of a g) g.sides a g.rows h

made_shown : (a : Attrs) (label : List ℕ) (vs : WideValues) (at : Option (List ℕ)) (g : Grid)
    → grid_of (made label vs at) ≡ Some g
    → (show a (made label vs at)).form ≡ cond (rows_fit a g.rows) (listed (all_rows a g)) (bad a (codes "tabular")).form
made_shown a label vs at g e =
    let holds = grid_holds label vs at g e in
    let cells : AllShown = show_below (levels_of vs) a vs in
    let all : AllShown = show_all false a (vals (all_cells g.rows)) in
    let same : cells ≡ all = below_all (levels_of vs) a vs ∙ ap (λ us. show_all false a (vals us)) (sym holds.1) in
    let told : List ShownRow → Form = λ rows. listed (table_paragraphs g.sides rows) in
    ap (λ s. s.form) (tabular_is a label vs at g e)
    ∙ ap (λ x. (tabular_shown a label (Some g) x).form) same
    ∙ pick label (grid_label label vs at g e) (shows.cells_fit all.each) (rows_fit a g.rows) (fits_all a g.rows) all
    (ap told
    (ap (λ ns. shows.shown_rows ns a all.each) holds.0 ∙ rows_each a g.rows) ∙ ap listed (paragraphs_are a g holds.0))
  where
    pick : (l : List ℕ) → l ≡ codes "tabular" → (b d : Bool) → b ≡ d → (x : AllShown)
        → (shows.rows_shown a g.sides x).form ≡ listed (all_rows a g)
        → (cond b (shows.rows_shown a g.sides x) (bad a l)).form
        ≡ cond d (listed (all_rows a g)) (bad a (codes "tabular")).form
    pick l is true true f x h = h
    pick l is false false f x h = ap (λ m. (bad a m).form) is
    pick l is true false f x h = absurd cc
    pick l is false true f x h = absurd cc

pub table_shown : (a : Attrs) (v : WideValue) (g : Grid) → grid_of v ≡ Some g
    → (show a v).form ≡ cond (rows_fit a g.rows) (listed (all_rows a g)) (bad a (codes "tabular")).form
table_shown a (text words at) g e = absurd cc
table_shown a (made label vs at) g e = made_shown a label vs at g e
