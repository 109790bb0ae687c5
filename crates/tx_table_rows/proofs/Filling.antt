-- The lines of the rows of a table.
use Rattle.std.proofs.Common.{◌≡◌, ℕ, zero, suc, ◌+◌, ◌-◌, ◌<◌, min, Bool, true, false, List, [], ◌∷◌, ◌++◌}
use Rattle.std.proofs.Common.{map, length, take, Some, refl, sym, ap, ap₂, ◌∙◌, subst, arith}
use Rattle.std.proofs.Common.{cond, append_assoc}
use Rattle.std.specs.Prelude.{All, codes}
use Rattle.std.specs.List.{range_with_len, AllByRecursion}
use Rattle.std.proofs.lemmas.List.{length-map}
use Rattle.std.proofs.lemmas.List.FromFn.{length-range_with_len, take-map-range_with_len, length-map-range_with_len}
use Rattle.std.proofs.lemmas.List.Elements.{All-nil, All-cons, All-head, All-tail, All-append}
use Rattle.tx_origin.specs.Values.{WideValue}
use Rattle.tx_table.specs.declared.grids.Grid.{Grid}
use Rattle.tx_table.specs.declared.settings.Side.{Side}
use Rattle.tx_table.specs.Columns.{left_pad, right_pad, across}
use Rattle.tx_items.specs.declared.attributes.Attrs.{Attrs}
use Rattle.tx_items.specs.declared.drawing.Item.{Item}
use Rattle.tx_items.specs.declared.drawing.Item.TheVariants.{Glyph, Space, Chance, Gap, Break, PageEnd, Down}
use Rattle.tx_items.specs.declared.drawing.Paragraph.{Paragraph}
use Rattle.tx_items.specs.Cells.{cells_across}
use Rattle.tx_items.specs.RowPlaces.{FitsRow}
use Rattle.tx_items.specs.Shows.{Form, listed, bad, unit_paragraphs, show}
use Rattle.tx_items.specs.Tables.{missing_gap, cell_items, gap_before, row_from, row_items}
use Rattle.tx_lines.specs.declared.cut.Cut.{Cut}
use Rattle.tx_lines.specs.Cuts.{Partitions}
use Rattle.tx_layout.specs.declared.layout.Line.{Line}
use Rattle.tx_layout.specs.declared.measures.Frame.{Frame}
use Rattle.tx_layout.specs.declared.pieces.Span.{Span}
use Rattle.tx_layout.specs.Frames.{line_frame, least_width}
use Rattle.tx_layout.specs.Words.{capped_item, Blank, Solid, SpansFrom}
use Rattle.tx_layout.specs.Segments.{piece_of, lines_of, HasWords}
use Rattle.tx_layout.specs.Shapes.{Whole, is_break, or_empty, items_shown, IsShape, HasLines, last_segment, then_cut}
use Rattle.tx_layout.specs.OneLine.{one_line}
use Rattle.tx_view_form.specs.Views.{UnitView, AreLines, no_lines, lines_then, IsShown}
use Rattle.tx_view_form.specs.TableCells.{IsTableRow}
use Rattle.tx_table_rows.specs.GridRows.{rows_fit, columns_of, sides_at, cells_at, row_shown, all_rows, IsTable}
use Rattle.tx_table_rows.specs.RowLines.{RowHasRoom, AreBetween}
use Rattle.tx_table_rows.proofs.Showing.{table_shown}
use Rattle.tx_table_rows.proofs.Fitting.{has_row, TakesColumns, row_full, row_whole}

-- ---- a row that has room

pub is_row : TakesColumns → (a : Attrs) (v : WideValue) (g : Grid) (width i : ℕ) → IsTable a v g → i < length g.rows
    → RowHasRoom a g width i → IsTableRow (row_shown a g i) width (columns_of a g) (sides_at g i) (cells_at a g i)
is_row takes a v g width i table h room =
    let has = row_full takes a v g i table h in
    record { made = refl; some = has.some; fits = has.fits; whole = row_whole a v g i table h; narrow = room }

-- these are the lines of a paragraph that is in one line
abbrev pub OnlyLine : ℕ → Paragraph → Type 0
OnlyLine width p = (own : List Line) → IsShape p width own → own ≡ one_line p width ∷ []

-- ---- among other paragraphs

-- the lines of a paragraph among those of others
pub record HasBetween (width : ℕ) (before after : List Paragraph) (p : Paragraph) (lines : List Line) : Type 0 where
  pub own : List Line
  pub shape : IsShape p width own
  pub between : AreBetween width before after own lines

more_above : (own others above rest : List Line) → others ≡ above ++ rest → own ++ others ≡ (own ++ above) ++ rest
more_above own others above rest e = ap (λ ls. own ++ ls) e ∙ sym (append_assoc own above rest)

pub shape_between : (width : ℕ) (before after : List Paragraph) (p : Paragraph) (ps : List Paragraph)
    (lines : List Line) → AreLines width ps lines → ps ≡ before ++ p ∷ after → HasBetween width before after p lines
shape_between width [] after p ps lines no_lines e = absurd cc
shape_between width [] after p ps lines (lines_then q qs own others shape more) e =
    let first : q ≡ p = cc in
    let rest : qs ≡ after = cc in
    record {
      own = own;
      shape = subst (λ z. IsShape z width own) first shape;
      between = record {
        above = [];
        below = others;
        are = refl;
        first = no_lines;
        last = subst (λ zs. AreLines width zs others) rest more;
      };
    }
shape_between width (b ∷ before) after p ps lines no_lines e = absurd cc
shape_between width (b ∷ before) after p ps lines (lines_then q qs own others shape more) e =
    let first : q ≡ b = cc in
    let rest : qs ≡ before ++ p ∷ after = cc in
    let found = shape_between width before after p qs others more rest in
    let there = found.between in
    record {
      own = found.own;
      shape = found.shape;
      between = record {
        above = own ++ there.above;
        below = there.below;
        are = more_above own others there.above (found.own ++ there.below) there.are;
        first = lines_then b before own there.above (subst (λ z. IsShape z width own) first shape) there.first;
        last = there.last;
      };
    }

pub line_between : (width : ℕ) (before after : List Paragraph) (p : Paragraph) (ps : List Paragraph)
    (lines : List Line) → OnlyLine width p → AreLines width ps lines → ps ≡ before ++ p ∷ after
    → AreBetween width before after (one_line p width ∷ []) lines
line_between width before after p ps lines only are e =
    let found = shape_between width before after p ps lines are e in
    subst (λ own. AreBetween width before after own lines) (only found.own found.shape) found.between

-- ---- a unit of a table alone

only_lines : (width : ℕ) (ps : List Paragraph) (lines : List Line) → AllByRecursion (OnlyLine width) ps
    → AreLines width ps lines → lines ≡ map (λ p. one_line p width) ps
only_lines width ps lines only no_lines = refl
only_lines width ps lines only (lines_then q qs own others shape more) =
    ap₂ (λ xs ys. xs ++ ys) (only.0 own shape) (only_lines width qs others only.1 more)

each_in_range : {X : Type 0} (P : X → Type 0) (f : ℕ → X) (k n : ℕ) → ((i : ℕ) → i < k + n → P (f i))
    → AllByRecursion P (map f (range_with_len k n))
each_in_range P f k zero h = tt
each_in_range P f k (suc n) h =
    (h k (omega arith), each_in_range P f (k + 1) n (λ i less. h i (omega arith)))

pub only_rows : (a : Attrs) (g : Grid) (width : ℕ) (lines : List Line)
    → ((i : ℕ) → i < length g.rows → OnlyLine width (row_shown a g i)) → AreLines width (all_rows a g) lines
    → lines ≡ map (λ p. one_line p width) (all_rows a g)
only_rows a g width lines only h =
    only_lines width (all_rows a g) lines
    (each_in_range (OnlyLine width) (row_shown a g) 0 (length g.rows) (λ i less. only i (omega arith))) h

some_paragraphs : (f : Form) (end : Attrs) (ps : List Paragraph) → f ≡ listed ps → 0 < length ps
    → unit_paragraphs f end ≡ ps
some_paragraphs f end [] e h = absurd (omega arith)
some_paragraphs f end (p ∷ ps) e h = ap (λ x. unit_paragraphs x end) e

pub unit_rows : (a : Attrs) (v : WideValue) (g : Grid) (width : ℕ) (path : List ℕ) (x : UnitView) → IsTable a v g
    → IsShown width a v (Some path) x → x.paragraphs ≡ all_rows a g
unit_rows a v g width path x table shown =
    let form : (show a v).form ≡ listed (all_rows a g) =
    pick (rows_fit a g.rows) table.fits (table_shown a v g table.grid) in
    let rows = has_row v g table.grid in
    let long : length (all_rows a g) ≡ length (range_with_len 0 (length g.rows)) =
    length-map (range_with_len 0 (length g.rows)) (row_shown a g) in
    let many : length (range_with_len 0 (length g.rows)) ≡ length g.rows =
    length-range_with_len 0 (length g.rows) in
    shown.paragraphs ∙ some_paragraphs (show a v).form (show a v).after (all_rows a g) form (omega arith)
  where
    pick : (b : Bool) → b ≡ true → (show a v).form ≡ cond b (listed (all_rows a g)) (bad a (codes "tabular")).form
        → (show a v).form ≡ listed (all_rows a g)
    pick true is e = e
    pick false is e = absurd cc

-- ---- a row that may have no room

gap_whole : (n : ℕ) → All Whole (Gap n ∷ [])
gap_whole n = All-cons Whole (Gap n) [] refl (All-nil Whole)

cell_whole : (s : Side) (n : ℕ) (x : List Item) → All Whole x → All Whole (cell_items s n x)
cell_whole s n x h =
    All-cons Whole (Gap (left_pad s (n - cells_across x))) (x ++ Gap (right_pad s (n - cells_across x)) ∷ []) refl
    (All-append Whole x (Gap (right_pad s (n - cells_across x)) ∷ []) h
    (gap_whole (right_pad s (n - cells_across x))))

before_whole : (j : ℕ) → All Whole (gap_before j)
before_whole zero = All-nil Whole
before_whole (suc j) = gap_whole 2

missing_whole : (columns : List ℕ) → All Whole (missing_gap columns)
missing_whole [] = All-nil Whole
missing_whole (n ∷ ns) = gap_whole (2 + across (n ∷ ns))

from_whole : (j : ℕ) (columns : List ℕ) (sides : List Side) (cells : List (List Item)) → All (All Whole) cells
    → All Whole (row_from j columns sides cells)
from_whole j columns sides [] w = missing_whole columns
from_whole j [] sides (x ∷ xs) w = All-nil Whole
from_whole j (n ∷ ns) [] (x ∷ xs) w = All-nil Whole
from_whole j (n ∷ ns) (s ∷ ss) (x ∷ xs) w =
    All-append Whole (gap_before j ++ cell_items s n x) (row_from (j + 1) ns ss xs)
    (All-append Whole (gap_before j) (cell_items s n x) (before_whole j)
    (cell_whole s n x (All-head (All Whole) x xs w)))
    (from_whole (j + 1) ns ss xs (All-tail (All Whole) x xs w))

capped_whole : (least : ℕ) (i : Item) → Whole i → Whole (capped_item least i)
capped_whole least (Glyph d) h = refl
capped_whole least (Space d) h = refl
capped_whole least (Chance d) h = refl
capped_whole least (Gap n) h = refl
capped_whole least Break h = h
capped_whole least PageEnd h = h
capped_whole least (Down n) h = h

all_capped : (least : ℕ) (xs : List Item) → All Whole xs → All Whole (map (capped_item least) xs)
all_capped least [] h = All-nil Whole
all_capped least (x ∷ xs) h =
    All-cons Whole (capped_item least x) (map (capped_item least) xs) (capped_whole least x (All-head Whole x xs h))
    (all_capped least xs (All-tail Whole x xs h))

-- items of which the first is solid have a word
a_span : (least : ℕ) (x : Item) (xs : List Item) → Solid x → SpansFrom least (x ∷ xs) 0 [] → ⊥
a_span least x xs solid h =
    let blank : Blank x = All-head Blank x xs h in
    let e : true ≡ false = sym blank ∙ solid in cc

a_line : (frame : Frame) (b : Bool) (x : Item) (xs : List Item) (spans : List Span) (cuts : List Cut)
    → Solid x → SpansFrom (least_width frame) (x ∷ xs) 0 spans
    → Partitions cuts 0 (length (map (piece_of (x ∷ xs)) spans))
    → [] ≡ lines_of frame b (x ∷ xs) spans cuts → ⊥
a_line frame b x xs [] cuts solid spelled parts e = a_span (least_width frame) x xs solid spelled
a_line frame b x xs (s ∷ ss) [] solid spelled parts e =
    let none : 0 ≡ length (map (piece_of (x ∷ xs)) (s ∷ ss)) = parts in
    omega arith
a_line frame b x xs (s ∷ ss) (c ∷ cs) solid spelled parts e = cc

words_there : (frame : Frame) (b : Bool) (x : Item) (xs : List Item) (words : List Line) → Solid x
    → HasWords frame b (x ∷ xs) words → or_empty b true words ≡ words
words_there frame b x xs [] solid h =
    absurd (a_line frame b x xs h.spans h.cuts solid h.spelled h.filled.in_order h.made)
words_there frame b x xs (l ∷ ls) solid h = refl

no_cut : (segment : List Item) (cut : Item) (rest : List Item) → is_break cut ≡ true
    → All Whole (segment ++ cut ∷ rest) → ⊥
no_cut [] cut rest is h =
    let whole : is_break cut ≡ false = All-head Whole cut rest h in
    let e : true ≡ false = sym is ∙ whole in cc
no_cut (x ∷ xs) cut rest is h = no_cut xs cut rest is (All-tail Whole x (xs ++ cut ∷ rest) h)

one_segment : (frame : Frame) (b : Bool) (x : Item) (xs items : List Item) (lines : List Line) → Solid x
    → items ≡ x ∷ xs → All Whole items → HasLines frame b items lines → HasWords frame b items lines
one_segment frame b x xs items lines solid is whole (last_segment b' segment words w h) =
    let P : List Item → Type 0 = λ l. HasWords frame b l words in
    subst (HasWords frame b segment) (sym (words_there frame b x xs words solid (subst P is h))) h
one_segment frame b x xs items lines solid is whole
    (then_cut b' items' segment cut rest words others parts w cuts h more) =
    absurd (no_cut segment cut rest cuts (subst (All Whole) parts whole))

row_words : (p : Paragraph) (width : ℕ) (columns : List ℕ) (sides : List Side) (cells : List (List Item))
    (lines : List Line) → p.items ≡ row_items columns sides cells → FitsRow columns sides cells → 0 < length cells
    → All (All Whole) cells → IsShape p width lines
    → HasWords (line_frame p width) true (items_shown p width) lines
row_words p width columns sides [] lines is fits some whole shape = absurd (omega arith)
row_words p width [] sides (x ∷ xs) lines is fits some whole shape = absurd fits
row_words p width (n ∷ ns) [] (x ∷ xs) lines is fits some whole shape = absurd fits
row_words p width (n ∷ ns) (s ∷ ss) (x ∷ xs) lines is fits some whole shape =
    let least : ℕ = least_width (line_frame p width) in
    let pad : ℕ = left_pad s (n - cells_across x) in
    let more : List Item = (x ++ Gap (right_pad s (n - cells_across x)) ∷ []) ++ row_from 1 ns ss xs in
    let items : p.items ≡ Gap pad ∷ more = is in
    let first : items_shown p width ≡ Gap (min pad least) ∷ map (capped_item least) more =
    ap (map (capped_item least)) items in
    let rest : List Item = map (capped_item least) more in
    one_segment (line_frame p width) true (Gap (min pad least)) rest (items_shown p width) lines refl first
    (all_capped least p.items
    (subst (All Whole) (sym is) (from_whole 0 (n ∷ ns) (s ∷ ss) (x ∷ xs) whole))) shape

pub row_filled : TakesColumns → (a : Attrs) (v : WideValue) (g : Grid) (width i : ℕ) (lines : List Line) → IsTable a v g
    → i < length g.rows → IsShape (row_shown a g i) width lines
    → HasWords (line_frame (row_shown a g i) width) true (items_shown (row_shown a g i) width) lines
row_filled takes a v g width i lines table h shape =
    let has = row_full takes a v g i table h in
    row_words (row_shown a g i) width (columns_of a g) (sides_at g i) (cells_at a g i) lines refl has.fits has.some
    (row_whole a v g i table h) shape

-- ---- a unit of a table all of whose rows have room

-- what the law of rows on lines says
abbrev pub AreOneLine : Type 0
AreOneLine =
    (p : Paragraph) (width : ℕ) (columns : List ℕ) (sides : List Side) (cells : List (List Item)) (lines : List Line)
    → IsTableRow p width columns sides cells → IsShape p width lines → lines ≡ one_line p width ∷ []

pub lines_alone : TakesColumns → AreOneLine → (a : Attrs) (v : WideValue) (g : Grid) (width : ℕ) (path : List ℕ)
    (x : UnitView) → IsTable a v g → ((i : ℕ) → i < length g.rows → RowHasRoom a g width i)
    → IsShown width a v (Some path) x → x.lines ≡ map (λ p. one_line p width) (all_rows a g)
lines_alone takes one a v g width path x table room shown =
    only_rows a g width x.lines
    (λ i h own shape.
    one (row_shown a g i) width (columns_of a g) (sides_at g i) (cells_at a g i) own
    (is_row takes a v g width i table h (room i h)) shape)
    (subst (λ ps. AreLines width ps x.lines) (unit_rows a v g width path x table shown) shown.lines)

-- the lines of the first rows, where these have room
pub first_lines : TakesColumns → AreOneLine → (a : Attrs) (v : WideValue) (g : Grid) (width i : ℕ) (lines : List Line)
    → IsTable a v g → i < length g.rows → AreLines width (take i (all_rows a g)) lines
    → ((k : ℕ) → k < i → RowHasRoom a g width k) → length lines ≡ i
first_lines takes one a v g width i lines table h are room =
    let rows : List Paragraph = map (row_shown a g) (range_with_len 0 i) in
    let same : take i (all_rows a g) ≡ rows =
    take-map-range_with_len (row_shown a g) 0 (length g.rows) i (omega arith) in
    let each : AllByRecursion (OnlyLine width) rows =
    each_in_range (OnlyLine width) (row_shown a g) 0 i
    (λ k less own shape.
    one (row_shown a g k) width (columns_of a g) (sides_at g k) (cells_at a g k) own
    (is_row takes a v g width k table (omega arith) (room k (omega arith))) shape) in
    ap length (only_lines width rows lines each (subst (λ ps. AreLines width ps lines) same are))
    ∙ length-map rows (λ p. one_line p width) ∙ length-map-range_with_len (row_shown a g) 0 i
