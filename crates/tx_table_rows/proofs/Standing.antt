-- A row of a table on its page.
use Rattle.std.proofs.Common.{◌≡◌, ℕ, zero, suc, ◌+◌, ◌-◌, ◌<◌, ◌≤◌, Bool, true, false, cond, List, [], ◌∷◌, ◌++◌}
use Rattle.std.proofs.Common.{length, take, drop, get_or, Option, Some, None, refl, sym, ap, ◌∙◌, subst, arith}
use Rattle.std.specs.Prelude.{nat_lt, slice_get, option_and_then}
use Rattle.std.specs.Option.{option_map}
use Rattle.std.proofs.lemmas.List.{length-append, take-append-drop, drop_more}
use Rattle.std.proofs.lemmas.List.FromFn.{length-map-range_with_len, get_or-map-range_with_len}
use Rattle.std.proofs.lemmas.List.Sums.{sum_by-cons, sum_by-append}
use Rattle.std.proofs.lemmas.List.Concat.{flat_map-cons}
use Rattle.tx_origin.specs.RelativePlaces.{BasedPlace}
use Rattle.tx_origin.specs.TaggedTrees.{tagged_of}
use Rattle.tx_units.specs.declared.kinds.Unit.{Unit as DocUnit}
use Rattle.tx_table.specs.declared.grids.Grid.{Grid}
use Rattle.tx_items.specs.declared.attributes.Attrs.{Attrs}
use Rattle.tx_items.specs.declared.drawing.Item.{Item}
use Rattle.tx_items.specs.declared.drawing.Paragraph.{Paragraph}
use Rattle.tx_items.specs.Cells.{item_cells, cells_across}
use Rattle.tx_items.specs.RowPlaces.{StandsAt}
use Rattle.tx_layout.specs.declared.layout.Line.{Line}
use Rattle.tx_layout.specs.declared.measures.Side.{Side}
use Rattle.tx_layout.specs.declared.measures.Side.TheVariants.{Left, Center, Right, Justify}
use Rattle.tx_layout.specs.Frames.{line_frame, least_width, first_indent, right_margin}
use Rattle.tx_layout.specs.Segments.{shift}
use Rattle.tx_layout.specs.OneLine.{one_line}
use Rattle.tx_view_form.specs.Outcomes.{Moment, outcome, behind, unit_value}
use Rattle.tx_view_form.specs.Started.{attributes_of}
use Rattle.tx_view_form.specs.Views.{UnitView, IsShown, AreShown, lines_of}
use Rattle.tx_view_form.specs.Cells.{row_in}
use Rattle.tx_view_form.specs.Positions.{place_on, place_in, position_in}
use Rattle.tx_table_rows.specs.GridRows.{row_shown, all_rows}
use Rattle.tx_table_rows.specs.RowLines.{RowHasRoom, row_line, IsPageRow}
use Rattle.tx_table_rows.specs.TableUnits.{moment_before}

-- ---- the line of a row of all

in_first : {X : Type 0} (xs ys : List X) (k : ℕ) (x : X) → slice_get xs k ≡ Some x → slice_get (xs ++ ys) k ≡ Some x
in_first [] ys k x e = absurd cc
in_first (z ∷ xs) ys zero x e = e
in_first (z ∷ xs) ys (suc k) x e = in_first xs ys k x e

in_rest : {X : Type 0} (xs ys : List X) (r : ℕ) → length xs ≤ r
    → slice_get (xs ++ ys) r ≡ slice_get ys (r - length xs)
in_rest [] ys r h = let e : r ≡ r - 0 = omega arith in ap (slice_get ys) e
in_rest (x ∷ xs) ys zero h = absurd (omega arith)
in_rest (x ∷ xs) ys (suc r) h =
    let e : r - length xs ≡ suc r - length (x ∷ xs) = omega arith in
    in_rest xs ys r (omega arith) ∙ ap (slice_get ys) e

not_lower : (m n : ℕ) → nat_lt m n ≡ false → n ≤ m
not_lower m n h = grind arith

not_below : (m n : ℕ) → n ≤ m → nat_lt m n ≡ false
not_below m n h = grind arith

less : (m n : ℕ) → m < n → nat_lt m n ≡ true
less m n h = grind arith

pub line_there : (xs : List UnitView) (r : ℕ) (x : UnitView) (k : ℕ) (line : Line) → row_in xs r ≡ Some (x, k)
    → slice_get x.lines k ≡ Some line → slice_get (lines_of xs) r ≡ Some line
line_there [] r x k line e there = absurd cc
line_there (y ∷ ys) r x k line e there =
    pick (nat_lt r (length y.lines)) refl e (λ h. line_there ys (r - length y.lines) x k line h there)
  where
    pair_in : Option (UnitView × ℕ) → UnitView × ℕ
    pair_in None = (y, r)
    pair_in (Some p) = p

    split : lines_of (y ∷ ys) ≡ y.lines ++ lines_of ys
    split = flat_map-cons (λ z. z.lines) y ys

    pick : (b : Bool) → nat_lt r (length y.lines) ≡ b
        → cond b (Some (y, r)) (row_in ys (r - length y.lines)) ≡ Some (x, k)
        → (row_in ys (r - length y.lines) ≡ Some (x, k) → slice_get (lines_of ys) (r - length y.lines) ≡ Some line)
        → slice_get (lines_of (y ∷ ys)) r ≡ Some line
    pick true is h rest =
        let unit : y ≡ x = ap (λ o. (pair_in o).0) h in
        let row : r ≡ k = ap (λ o. (pair_in o).1) h in
        ap (λ ls. slice_get ls r) split
        ∙ in_first y.lines (lines_of ys) r line
        (ap (λ z. slice_get z.lines r) unit ∙ ap (slice_get x.lines) row ∙ there)
    pick false is h rest =
        ap (λ ls. slice_get ls r) split ∙ in_rest y.lines (lines_of ys) r (not_lower r (length y.lines) is) ∙ rest h

-- ---- a line with all of a paragraph is within its page

shift_le : (side : Side) (free : ℕ) → shift side free ≤ free
shift_le Left free = omega arith
shift_le Center free = omega arith
shift_le Right free = omega arith
shift_le Justify free = omega arith

pub line_on_page : (p : Paragraph) (width : ℕ) → cells_across p.items ≤ least_width (line_frame p width)
    → 0 < cells_across p.items → (one_line p width).indent + cells_across p.items ≤ width
line_on_page p width narrow some =
    let first : ℕ = width - first_indent p width - right_margin p width in
    let moved : shift (line_frame p width).side (first - cells_across p.items) ≤ first - cells_across p.items =
    shift_le (line_frame p width).side (first - cells_across p.items) in
    let room : cells_across p.items ≤ first = omega arith in
    omega arith

-- what is in a cell is in its row
pub in_row : (items cell front back : List Item) (item : Item) (at : ℕ) → StandsAt items at cell
    → cell ≡ front ++ item ∷ back → at + cells_across front + item_cells item ≤ cells_across items
in_row items cell front back item at st parts =
    let whole = ap cells_across st.are in
    let a = sum_by-append item_cells (st.front ++ cell) st.back in
    let b = sum_by-append item_cells st.front cell in
    let own = ap cells_across parts in
    let d = sum_by-append item_cells front (item ∷ back) in
    let e = sum_by-cons item_cells item back in
    let place = st.cells in
    omega arith

-- ---- the position at a column

pub position_there : (xs : List UnitView) (width r c : ℕ) (x : UnitView) (k : ℕ) (path : List ℕ) (line : Line)
    (place : BasedPlace) → c < width → row_in xs r ≡ Some (x, k) → x.path ≡ Some path → slice_get x.lines k ≡ Some line
    → place_on path (take k x.lines) line (drop (k + 1) x.lines) c ≡ place → position_in xs width r c ≡ Some place
position_there xs width r c x k path line place h found has there is =
    ap (λ b. cond b (option_and_then (λ p. place_in p.0 p.1 c) (row_in xs r)) None) (less c width h)
    ∙ ap (option_and_then (λ p. place_in p.0 p.1 c)) found
    ∙ ap
    (option_and_then
    (λ q. option_map (λ l. place_on q (take k x.lines) l (drop (k + 1) x.lines) c) (slice_get x.lines k))) has
    ∙ ap (option_map (λ l. place_on path (take k x.lines) l (drop (k + 1) x.lines) c)) there
    ∙ ap (λ q. Some q) is

-- ---- the row of all that is a line of a unit

pub row_there : (xs : List UnitView) (n i : ℕ) (x : UnitView) → slice_get xs n ≡ Some x → i < length x.lines
    → row_in xs (length (lines_of (take n xs)) + i) ≡ Some (x, i)
row_there [] n i x e h = absurd cc
row_there (y ∷ ys) zero i x e h =
    let same : y ≡ x = cc in
    let within : i < length y.lines = subst (λ z. i < length z.lines) (sym same) h in
    let place : length (lines_of (take 0 (y ∷ ys))) + i ≡ i = omega arith in
    ap (row_in (y ∷ ys)) place
    ∙ ap (λ b. cond b (Some (y, i)) (row_in ys (i - length y.lines))) (less i (length y.lines) within)
    ∙ ap (λ z. Some (z, i)) same
row_there (y ∷ ys) (suc n) i x e h =
    let rest : ℕ = length (lines_of (take n ys)) + i in
    let long : length (lines_of (take (suc n) (y ∷ ys))) ≡ length (y.lines ++ lines_of (take n ys)) =
    ap length (flat_map-cons (λ z. z.lines) y (take n ys)) in
    let sum = length-append y.lines (lines_of (take n ys)) in
    let place : length (lines_of (take (suc n) (y ∷ ys))) + i ≡ length y.lines + rest = omega arith in
    let behind : length y.lines + rest - length y.lines ≡ rest = omega arith in
    ap (row_in (y ∷ ys)) place
    ∙ ap (λ b. cond b (Some (y, length y.lines + rest)) (row_in ys (length y.lines + rest - length y.lines)))
    (not_below (length y.lines + rest) (length y.lines) (omega arith))
    ∙ ap (row_in ys) behind ∙ row_there ys n i x e h

got_between : (above below : List Line) (line : Line) → slice_get (above ++ line ∷ below) (length above) ≡ Some line
got_between above below line =
    let none : length above - length above ≡ 0 = omega arith in
    in_rest above (line ∷ below) (length above) (omega arith) ∙ ap (slice_get (line ∷ below)) none

-- the rows before one, this one, and those after it
pub rows_split : (a : Attrs) (g : Grid) (i : ℕ) → i < length g.rows
    → all_rows a g ≡ take i (all_rows a g) ++ row_shown a g i ∷ drop (i + 1) (all_rows a g)
rows_split a g i h =
    let rows : List Paragraph = all_rows a g in
    let many = length-map-range_with_len (row_shown a g) 0 (length g.rows) in
    let here : get_or rows i (row_shown a g i) ≡ row_shown a g i =
    get_or-map-range_with_len (row_shown a g) 0 (length g.rows) i i (row_shown a g i) h (omega arith) in
    sym (take-append-drop i rows)
    ∙ ap (λ ps. take i rows ++ ps)
    (drop_more rows i (row_shown a g i) (omega arith) ∙ ap (λ p. p ∷ drop (i + 1) rows) here)

-- ---- a unit of a document

pub unit_there : (width : ℕ) (m : Moment) (us : List DocUnit) (xs : List UnitView) (n : ℕ) (u : DocUnit)
    → AreShown width m us xs → slice_get us n ≡ Some u
    → (x : UnitView) × ((slice_get xs n ≡ Some x)
    × IsShown width (attributes_of (moment_before m us n).env)
    (unit_value (outcome (tagged_of u.tagged) (moment_before m us n))) u.path x)
unit_there width m [] xs n u h e = absurd cc
unit_there width m (t ∷ us) [] n u h e = absurd h
unit_there width m (t ∷ us) (x ∷ xs) zero u h e =
    let same : t ≡ u = cc in
    let Shown : DocUnit → Type 0 = λ w.
    IsShown width (attributes_of m.env) (unit_value (outcome (tagged_of w.tagged) m)) w.path x in
    (x, (refl, subst Shown same h.0))
unit_there width m (t ∷ us) (x ∷ xs) (suc n) u h e =
    unit_there width (behind m (outcome (tagged_of t.tagged) m)) us xs n u h.1 e

pub page_row : (a : Attrs) (g : Grid) (width n i : ℕ) (path : List ℕ) (xs : List UnitView) (x : UnitView)
    (above below : List Line) → slice_get xs n ≡ Some x → x.path ≡ Some path
    → x.lines ≡ above ++ row_line a g width i ∷ below → i < length g.rows → RowHasRoom a g width i
    → IsPageRow a g width i xs (length (lines_of (take n xs)) + length above) path
page_row a g width n i path xs x above below there has lines h room =
    let line : Line = row_line a g width i in
    let many = ap length lines in
    let more = length-append above (line ∷ below) in
    record {
      within = h;
      room = room;
      unit = x;
      number = length above;
      found = row_there xs n (length above) x there (omega arith);
      has_path = has;
      line = ap (λ ls. slice_get ls (length above)) lines ∙ got_between above below line;
    }
