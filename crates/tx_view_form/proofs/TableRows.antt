-- The rows of tables as lines, and which item covers a column.
use Rattle.std.proofs.Common.{◌≡◌, ℕ, zero, suc, ◌+◌, ◌-◌, ◌<◌, ◌≤◌, List, [], ◌∷◌, ◌++◌, length, get_or, Some, None, cond}
use Rattle.std.proofs.Common.{refl, sym, ap, ◌∙◌, subst, arith, true, false, append_assoc, take, drop}
use Rattle.std.specs.Prelude.{All, slice_get, nat_le, nat_lt, option_and_then}
use Rattle.std.proofs.lemmas.List.{append-nil, length-append}
use Rattle.std.proofs.lemmas.List.Sums.{sum_by-cons, sum_by-append}
use Rattle.std.proofs.lemmas.List.Elements.{All-nil, All-cons, All-head, All-tail, All-append}
use Rattle.tx_table.specs.declared.settings.Side.{Side}
use Rattle.tx_table.specs.Columns.{left_pad, right_pad, across}
use Rattle.tx_items.specs.declared.drawing.Item.{Item}
use Rattle.tx_items.specs.declared.drawing.Item.TheVariants.{Gap, Break}
use Rattle.tx_items.specs.declared.drawing.Paragraph.{Paragraph}
use Rattle.tx_items.specs.Cells.{item_cells, cells_across}
use Rattle.tx_items.specs.Tables.{missing_gap, cell_items, gap_before, row_from, row_items}
use Rattle.tx_items.specs.RowPlaces.{FitsRow, ColumnStands}
use Rattle.tx_layout.specs.declared.layout.Line.{Line}
use Rattle.tx_layout.specs.Words.{Solid}
use Rattle.tx_layout.specs.Shapes.{Whole}
use Rattle.tx_layout.specs.OneLine.{IsOneLine, one_line}
use Rattle.tx_view_form.specs.Cells.{items_before, item_number, item_at, drawn_in, drawn_at}
use Rattle.tx_view_form.specs.Positions.{Mark, mark_of, marks_of, items_on, place_on, place_by, start_of}
use Rattle.tx_view_form.specs.TableCells.{IsTableRow, CoversColumn}

-- ---- the item that covers a column

le_yes : (m n : ℕ) → m ≤ n → nat_le m n ≡ true
le_yes m n h = grind arith

le_no : (m n : ℕ) → n < m → nat_le m n ≡ false
le_no m n h = grind arith

lt_no : (m n : ℕ) → n ≤ m → nat_lt m n ≡ false
lt_no m n h = grind arith

number_is : (from c : ℕ) (front back : List Item) (x : Item) → from + cells_across front ≤ c
    → c < from + cells_across front + item_cells x → items_before from (front ++ x ∷ back) c ≡ length front
number_is from c [] back x low high =
    ap (λ b. cond b (1 + items_before (from + item_cells x) back c) 0) (le_no (from + item_cells x) c (omega arith))
    ∙ omega arith
number_is from c (y ∷ ys) back x low high =
    let all = sum_by-cons item_cells y ys in
    let rest = number_is (from + item_cells y) c ys back x (omega arith) (omega arith) in
    ap (λ b. cond b (1 + items_before (from + item_cells y) (ys ++ x ∷ back) c) 0)
    (le_yes (from + item_cells y) c (omega arith))
    ∙ omega arith

got_at : (front back : List Item) (x : Item) → slice_get (front ++ x ∷ back) (length front) ≡ Some x
got_at [] back x = refl
got_at (y ∷ ys) back x =
    let n : length (y ∷ ys) ≡ suc (length ys) = omega arith in
    ap (λ k. slice_get (y ∷ (ys ++ x ∷ back)) k) n ∙ got_at ys back x

pub item_covers : (line : Line) (front back : List Item) (x : Item) (c : ℕ) → line.items ≡ front ++ x ∷ back
    → line.indent + cells_across front ≤ c → c < line.indent + cells_across front + item_cells x
    → item_at line c ≡ Some x
item_covers line front back x c e low high =
    let number : item_number line c ≡ length front =
    ap (λ l. items_before line.indent l c) e ∙ number_is line.indent c front back x low high in
    ap (λ b. cond b None (slice_get line.items (item_number line c))) (lt_no c line.indent (omega arith))
    ∙ ap (λ k. slice_get line.items k) number ∙ ap (λ l. slice_get l (length front)) e ∙ got_at front back x

-- ---- a row of a table is one line

record EndsInGap (items : List Item) : Type 0 where
  front : List Item
  cells : ℕ
  are : items ≡ front ++ Gap cells ∷ []

behind_gap : (xs ys : List Item) → EndsInGap ys → EndsInGap (xs ++ ys)
behind_gap xs ys h = record {
  front = xs ++ h.front;
  cells = h.cells;
  are = ap (λ l. xs ++ l) h.are ∙ sym (append_assoc xs h.front (Gap h.cells ∷ []));
}

cell_ends : (s : Side) (n : ℕ) (x : List Item) → EndsInGap (cell_items s n x)
cell_ends s n x = record {
  front = Gap (left_pad s (n - cells_across x)) ∷ x;
  cells = right_pad s (n - cells_across x);
  are = refl;
}

row_ends : (j : ℕ) (columns : List ℕ) (sides : List Side) (x : List Item) (xs : List (List Item))
    → FitsRow columns sides (x ∷ xs) → EndsInGap (row_from j columns sides (x ∷ xs))
row_ends j [] sides x xs h = absurd h
row_ends j (n ∷ ns) [] x xs h = absurd h
row_ends j (n ∷ []) (s ∷ ss) x [] h =
    let whole : List Item = gap_before j ++ cell_items s n x in
    let own : EndsInGap whole = behind_gap (gap_before j) (cell_items s n x) (cell_ends s n x) in
    record { front = own.front; cells = own.cells; are = append-nil whole ∙ own.are }
row_ends j (n ∷ (m ∷ ms)) (s ∷ ss) x [] h =
    record { front = gap_before j ++ cell_items s n x; cells = 2 + across (m ∷ ms); are = refl }
row_ends j (n ∷ ns) (s ∷ ss) x (y ∷ ys) h =
    behind_gap (gap_before j ++ cell_items s n x) (row_from (j + 1) ns ss (y ∷ ys))
    (row_ends (j + 1) ns ss y ys h.1)

at_end : (front : List Item) (x : Item) → get_or (front ++ x ∷ []) (length front) Break ≡ x
at_end [] x = refl
at_end (y ∷ ys) x =
    let k : length (y ∷ ys) ≡ suc (length ys) = omega arith in
    ap (λ i. get_or (y ∷ (ys ++ x ∷ [])) i Break) k ∙ at_end ys x

last_solid : (items : List Item) → EndsInGap items → Solid (get_or items (length items - 1) Break)
last_solid items h =
    let long = length-append h.front (Gap h.cells ∷ []) in
    let n : length (h.front ++ Gap h.cells ∷ []) - 1 ≡ length h.front = omega arith in
    let P : List Item → Type 0 = λ l. Solid (get_or l (length l - 1) Break) in
    let Q : Item → Type 0 = Solid in
    subst P (sym h.are)
    (subst Q (sym (ap (λ k. get_or (h.front ++ Gap h.cells ∷ []) k Break) n ∙ at_end h.front (Gap h.cells))) refl)

first_solid : (columns : List ℕ) (sides : List Side) (x : List Item) (xs : List (List Item))
    → FitsRow columns sides (x ∷ xs) → Solid (get_or (row_items columns sides (x ∷ xs)) 0 Break)
first_solid [] sides x xs h = absurd h
first_solid (n ∷ ns) [] x xs h = absurd h
first_solid (n ∷ ns) (s ∷ ss) x xs h = refl

gap_whole : (n : ℕ) → All Whole (Gap n ∷ [])
gap_whole n = All-cons Whole (Gap n) [] refl (All-nil Whole)

cell_whole : (s : Side) (n : ℕ) (x : List Item) → All Whole x → All Whole (cell_items s n x)
cell_whole s n x h =
    All-cons Whole (Gap (left_pad s (n - cells_across x))) (x ++ Gap (right_pad s (n - cells_across x)) ∷ []) refl
    (All-append Whole x (Gap (right_pad s (n - cells_across x)) ∷ []) h
    (gap_whole (right_pad s (n - cells_across x))))

before_whole : (j : ℕ) → All Whole (gap_before j)
before_whole zero = All-nil Whole
before_whole (suc j) = gap_whole 2

missing_whole : (columns : List ℕ) → All Whole (missing_gap columns)
missing_whole [] = All-nil Whole
missing_whole (n ∷ ns) = gap_whole (2 + across (n ∷ ns))

row_whole : (j : ℕ) (columns : List ℕ) (sides : List Side) (cells : List (List Item)) → FitsRow columns sides cells
    → All (All Whole) cells → All Whole (row_from j columns sides cells)
row_whole j columns sides [] h w = missing_whole columns
row_whole j [] sides (x ∷ xs) h w = absurd h
row_whole j (n ∷ ns) [] (x ∷ xs) h w = absurd h
row_whole j (n ∷ ns) (s ∷ ss) (x ∷ xs) h w =
    All-append Whole (gap_before j ++ cell_items s n x) (row_from (j + 1) ns ss xs)
    (All-append Whole (gap_before j) (cell_items s n x) (before_whole j)
    (cell_whole s n x (All-head (All Whole) x xs w)))
    (row_whole (j + 1) ns ss xs h.1 (All-tail (All Whole) x xs w))

abbrev TakesColumns : Type 0
TakesColumns =
    (columns : List ℕ) (sides : List Side) (cells : List (List Item)) → FitsRow columns sides cells
    → 0 < length cells → cells_across (row_items columns sides cells) ≡ across columns

row_fits : TakesColumns → (p : Paragraph) (width : ℕ) (columns : List ℕ) (sides : List Side) (x : List Item)
    (xs : List (List Item)) → IsTableRow p width columns sides (x ∷ xs) → IsOneLine p width
row_fits takes p width columns sides x xs h =
    let items : List Item = row_items columns sides (x ∷ xs) in
    let ends : EndsInGap items = row_ends 0 columns sides x xs h.fits in
    let long = ap length ends.are in
    let more = length-append ends.front (Gap ends.cells ∷ []) in
    let same = ap length h.made in
    let wide = ap cells_across h.made in
    let columns_wide = takes columns sides (x ∷ xs) h.fits h.some in
    let room = h.narrow in
    let P : List Item → Type 0 = All Whole in
    let Q : List Item → Type 0 = λ l. Solid (get_or l 0 Break) in
    let R : List Item → Type 0 = λ l. Solid (get_or l (length l - 1) Break) in
    record {
      some = omega arith;
      whole = subst P (sym h.made) (row_whole 0 columns sides (x ∷ xs) h.fits h.whole);
      first = subst Q (sym h.made) (first_solid columns sides x xs h.fits);
      last = subst R (sym h.made) (last_solid items ends);
      narrow = omega arith;
    }

pub row_one : TakesColumns → (p : Paragraph) (width : ℕ) (columns : List ℕ) (sides : List Side)
    (cells : List (List Item)) → IsTableRow p width columns sides cells → IsOneLine p width
row_one takes p width columns sides [] h = let some = h.some in absurd (omega arith)
row_one takes p width columns sides (x ∷ xs) h = row_fits takes p width columns sides x xs h

-- ---- the item of a cell that covers a column

abbrev StandInColumns : Type 0
StandInColumns =
    (columns : List ℕ) (sides : List Side) (cells : List (List Item)) (j : ℕ) (x : List Item)
    → FitsRow columns sides cells → slice_get cells j ≡ Some x → ColumnStands columns sides cells j x

pub row_covers : StandInColumns → (p : Paragraph) (width : ℕ) (columns : List ℕ) (sides : List Side)
    (cells : List (List Item)) (j : ℕ) (item : Item) (c : ℕ) → IsTableRow p width columns sides cells
    → CoversColumn p width columns sides cells j item c → item_at (one_line p width) c ≡ Some item
row_covers stand p width columns sides cells j item c h at =
    let st = stand columns sides cells j at.cell h.fits at.there in
    let front : List Item = st.front ++ at.front in
    let back : List Item = at.back ++ st.back in
    let parts : p.items ≡ front ++ item ∷ back =
    h.made ∙ st.are ∙ ap (λ l. (st.front ++ l) ++ st.back) at.among
    ∙ ap (λ l. l ++ st.back) (sym (append_assoc st.front at.front (item ∷ at.back)))
    ∙ append_assoc front (item ∷ at.back) st.back in
    let before = sum_by-append item_cells st.front at.front in
    let place = st.cells in
    let low = at.from in
    let high = at.before in
    item_covers (one_line p width) front back item c parts (omega arith) (omega arith)

pub drawn_covers : (line : Line) (item : Item) (c : ℕ) → item_at line c ≡ Some item → drawn_at line c ≡ drawn_in item
drawn_covers line item c e = ap (λ o. option_and_then drawn_in o) e

pub place_covers : (line : Line) (item : Item) (c : ℕ) (path : List ℕ) (above below : List Line) (m : Mark)
    → mark_of item ≡ Some m → item_at line c ≡ Some item → place_on path above line below c ≡ start_of path m
place_covers line item c path above below m marked e =
    let found : option_and_then mark_of (item_at line c) ≡ Some m = ap (λ o. option_and_then mark_of o) e ∙ marked in
    ap
    (λ o.
    place_by o path (marks_of (items_on above ++ take (item_number line c) line.items))
    (marks_of (drop (item_number line c) line.items ++ items_on below)))
    found
