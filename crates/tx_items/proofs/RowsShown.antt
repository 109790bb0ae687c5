-- What the rows of a table show, and their items.
use Rattle.std.proofs.Common.{◌≡◌, ℕ, zero, suc, ◌+◌, ◌-◌, ◌<◌, ◌≤◌, max, Bool, true, false, not, cond, Option, Some, None, List, [], ◌∷◌, ◌++◌, map, length}
use Rattle.std.proofs.Common.{take, drop, get_or, refl, sym, ap, ap₂, ◌∙◌, subst, arith, append_assoc, append-nil}
use Rattle.std.specs.List.{list_any}
use Rattle.std.proofs.lemmas.List.{drop_more, drop_all, take_all, length-drop, length-append, length-map}
use Rattle.tx_origin.specs.Values.{WideValue, text, made, none, also, vals}
use Rattle.tx_table.specs.declared.grids.Grid.{Grid}
use Rattle.tx_table.specs.Grids.{grid_of}
use Rattle.tx_table.specs.declared.plans.Plan.{Plan}
use Rattle.tx_table.specs.declared.settings.Side.{Side}
use Rattle.tx_table.specs.declared.settings.Side.TheVariants.{Left}
use Rattle.tx_table.specs.Columns.{wider, column_widths, left_pad, right_pad, row_pads, all_pads, plan_of, across}
use Rattle.tx_items.specs.declared.attributes.Attrs.{Attrs}
use Rattle.tx_items.specs.declared.drawing.Item.{Item}
use Rattle.tx_items.specs.declared.drawing.Item.TheVariants.{Gap}
use Rattle.tx_items.specs.declared.drawing.Paragraph.{Paragraph}
use Rattle.tx_items.specs.Cells.{cells_across}
use Rattle.tx_items.specs.Drawing.{paragraph}
use Rattle.tx_items.specs.Tables.{missing_gap, gap_before, cell_items, row_from, row_items, ShownRow}
use Rattle.tx_items.specs.Tables.{row_widths, row_paragraphs, table_paragraphs, levels_of}
use Rattle.tx_items.specs.Flat.{is_table, is_flat, flat_below, shows_table}
use Rattle.tx_items.specs.Shows.{ItemRun, empty, begun, run_of, beside, Form, inline, listed, Shown, AllShown, one_of}
use Rattle.tx_items.specs.Shows.{both_shown, run_items, items_in, fits_cell, after_each, shown_rows, show, show_all}
use Rattle.tx_items.specs.Shows.{run_ended, cells_fit, bad, rows_shown, tabular_shown, show_below}
use Rattle.tx_items.specs.Running.{State, Adds, HasShown, HasCells, HasRows, all_cells, gaps_and_columns, padded_from}
use Rattle.tx_items.specs.Running.{AddsParagraphs, table_shown}
use Rattle.tx_items.proofs.Flatness.{items_of_run, fits_flat, fits_below}
use Rattle.tx_items.proofs.Below.{all_append, all_first, all_nothing, each_length, below_all, grid_holds}

pub first_at : {X : Type 0} (xs : List X) (i : ℕ) (x : X) → i < length xs → x ≡ get_or xs i x
    → drop i xs ≡ x ∷ drop (i + 1) xs
first_at xs i x there is = drop_more xs i x there ∙ ap (λ y. y ∷ drop (i + 1) xs) (sym is)

-- ---- columns

pub gaps_more : (xs : List ℕ) (i n : ℕ) → i < length xs → n ≡ get_or xs i n
    → gaps_and_columns (drop i xs) ≡ 2 + n + gaps_and_columns (drop (i + 1) xs)
gaps_more xs i n there is = ap gaps_and_columns (first_at xs i n there is)

gaps_are : (n : ℕ) (ns : List ℕ) → 2 + across (n ∷ ns) ≡ gaps_and_columns (n ∷ ns)
gaps_are n [] = omega arith
gaps_are n (m ∷ ms) = omega (arith, gaps_are m ms)

pub missing_all : (columns : List ℕ) → 0 < length columns
    → missing_gap columns ≡ Gap (gaps_and_columns columns) ∷ []
missing_all [] h = absurd (omega arith)
missing_all (n ∷ ns) h = ap (λ m. Gap m ∷ []) (gaps_are n ns)

pub missing_none : (columns : List ℕ) → length columns ≡ 0 → missing_gap columns ≡ []
missing_none [] h = refl
missing_none (n ∷ ns) h = absurd (omega arith)

pub ruleset columns = (gaps_more, missing_all, missing_none)

-- ---- the items of a row

pub padded_next : (at : ℕ) (cs ls rs : List ℕ) (x : List Item) (rest : List (List Item)) (l r : ℕ) → at < length cs
    → at < length ls → at < length rs → l ≡ get_or ls at 0 → r ≡ get_or rs at 0
    → padded_from at (drop at cs) (drop at ls) (drop at rs) (x ∷ rest)
    ≡ gap_before at ++ (Gap l ∷ (x ++ Gap r ∷ []))
    ++ padded_from (at + 1) (drop (at + 1) cs) (drop (at + 1) ls) (drop (at + 1) rs) rest
padded_next at cs ls rs x rest l r a b c isl isr =
    let n : ℕ = get_or cs at 0 in
    let left : drop at ls ≡ l ∷ drop (at + 1) ls =
    drop_more ls at 0 b ∙ ap (λ m. m ∷ drop (at + 1) ls) (sym isl) in
    let right : drop at rs ≡ r ∷ drop (at + 1) rs =
    drop_more rs at 0 c ∙ ap (λ m. m ∷ drop (at + 1) rs) (sym isr) in
    ap (λ ns. padded_from at ns (drop at ls) (drop at rs) (x ∷ rest)) (drop_more cs at 0 a)
    ∙ ap (λ ms. padded_from at (n ∷ drop (at + 1) cs) ms (drop at rs) (x ∷ rest)) left
    ∙ ap (λ ms. padded_from at (n ∷ drop (at + 1) cs) (l ∷ drop (at + 1) ls) ms (x ∷ rest)) right

-- a cell put after items, piece by piece
regroup : (i g x p : List Item) (a b : Item)
    → i ++ g ++ a ∷ [] ++ x ++ b ∷ [] ++ p ≡ i ++ (g ++ (a ∷ (x ++ b ∷ [])) ++ p)
regroup i g x p a b =
    ap (λ q. q ++ p)
    (append_assoc (i ++ g ++ a ∷ []) x (b ∷ []) ∙ append_assoc (i ++ g) (a ∷ []) (x ++ b ∷ [])
    ∙ append_assoc i g (a ∷ (x ++ b ∷ [])))
    ∙ append_assoc i (g ++ (a ∷ (x ++ b ∷ []))) p

pub padded_pushed : (at : ℕ) (cs ls rs : List ℕ) (x : List Item) (rest : List (List Item)) (l r : ℕ)
    (items whole : List Item) → at < length cs → at < length ls → at < length rs → l ≡ get_or ls at 0
    → r ≡ get_or rs at 0 → items ++ padded_from at (drop at cs) (drop at ls) (drop at rs) (x ∷ rest) ≡ whole
    → (i1 i2 i3 i4 : List Item) → i1 ≡ items ++ gap_before at → i2 ≡ i1 ++ Gap l ∷ [] → i3 ≡ i2 ++ x
    → i4 ≡ i3 ++ Gap r ∷ []
    → i4 ++ padded_from (at + 1) (drop (at + 1) cs) (drop (at + 1) ls) (drop (at + 1) rs) rest ≡ whole
padded_pushed at cs ls rs x rest l r items whole a b c isl isr so_far i1 i2 i3 i4 e1 e2 e3 e4 =
    let p : List Item = padded_from (at + 1) (drop (at + 1) cs) (drop (at + 1) ls) (drop (at + 1) rs) rest in
    ap (λ q. q ++ p)
    (e4
    ∙ ap (λ q. q ++ Gap r ∷ []) (e3 ∙ ap (λ q. q ++ x) (e2 ∙ ap (λ q. q ++ Gap l ∷ []) e1)))
    ∙ regroup items (gap_before at) x p (Gap l) (Gap r)
    ∙ ap (λ q. items ++ q) (sym (padded_next at cs ls rs x rest l r a b c isl isr)) ∙ so_far

-- the pads are those of the sides
pub padded_is : (j : ℕ) (columns : List ℕ) (sides : List Side) (cells : List (List Item))
    → length cells ≤ length columns → length sides ≡ length cells
    → padded_from j columns (row_pads left_pad columns sides (map cells_across cells))
    (row_pads right_pad columns sides (map cells_across cells)) cells
    ≡ row_from j columns sides cells
padded_is j columns sides [] h k = nothing (row_pads left_pad columns sides []) (row_pads right_pad columns sides [])
  where
    nothing : (ls rs : List ℕ) → padded_from j columns ls rs [] ≡ row_from j columns sides []
    nothing ls rs = refl
padded_is j [] sides (x ∷ xs) h k = absurd (omega arith)
padded_is j (n ∷ ns) [] (x ∷ xs) h k = absurd (omega arith)
padded_is j (n ∷ ns) (s ∷ ss) (x ∷ xs) h k =
    ap (λ q. gap_before j ++ cell_items s n x ++ q) (padded_is (j + 1) ns ss xs (omega arith) (omega arith))

pub pads_length : (pad : Side → ℕ → ℕ) (columns : List ℕ) (sides : List Side) (widths : List ℕ)
    → length widths ≤ length columns → length sides ≡ length widths
    → length (row_pads pad columns sides widths) ≡ length widths
pads_length pad [] sides [] h k = refl
pads_length pad (n ∷ ns) [] [] h k = refl
pads_length pad (n ∷ ns) (s ∷ ss) [] h k = refl
pads_length pad [] sides (w ∷ ws) h k = absurd (omega arith)
pads_length pad (n ∷ ns) [] (w ∷ ws) h k = absurd (omega arith)
pads_length pad (n ∷ ns) (s ∷ ss) (w ∷ ws) h k = omega (arith, pads_length pad ns ss ws (omega arith) (omega arith))

pub all_pads_at : (pad : Side → ℕ → ℕ) (columns : List ℕ) (sides : List (List Side)) (widths : List (List ℕ))
    (at : ℕ) (ss : List Side) (ws d : List ℕ) → at < length widths → length sides ≡ length widths
    → ss ≡ get_or sides at ss → ws ≡ get_or widths at ws
    → get_or (all_pads pad columns sides widths) at d ≡ row_pads pad columns ss ws
all_pads_at pad columns sides [] at ss ws d h k e f = absurd (omega arith)
all_pads_at pad columns [] (w ∷ widths) at ss ws d h k e f = absurd (omega arith)
all_pads_at pad columns (s ∷ sides) (w ∷ widths) zero ss ws d h k e f = ap₂ (row_pads pad columns) (sym e) (sym f)
all_pads_at pad columns (s ∷ sides) (w ∷ widths) (suc at) ss ws d h k e f =
    all_pads_at pad columns sides widths at ss ws d (omega arith) (omega arith) e f

pub all_pads_length : (pad : Side → ℕ → ℕ) (columns : List ℕ) (sides : List (List Side)) (widths : List (List ℕ))
    → length sides ≡ length widths → length (all_pads pad columns sides widths) ≡ length widths
all_pads_length pad columns [] [] k = refl
all_pads_length pad columns [] (w ∷ widths) k = absurd (omega arith)
all_pads_length pad columns (s ∷ sides) [] k = absurd (omega arith)
all_pads_length pad columns (s ∷ sides) (w ∷ widths) k =
    omega (arith, all_pads_length pad columns sides widths (omega arith))

wider_long : (ns ms : List ℕ) → (length ns ≤ length (wider ns ms)) × (length ms ≤ length (wider ns ms))
wider_long [] ms = (omega arith, omega arith)
wider_long (n ∷ ns) [] = (omega arith, omega arith)
wider_long (n ∷ ns) (m ∷ ms) = let rest = wider_long ns ms in (omega (arith, rest.0), omega (arith, rest.1))

pub columns_long : (widths : List (List ℕ)) (at : ℕ) (ws : List ℕ) → at < length widths → ws ≡ get_or widths at ws
    → length ws ≤ length (column_widths widths)
columns_long [] at ws h e = absurd (omega arith)
columns_long (w ∷ widths) zero ws h e = rw e ((wider_long w (column_widths widths)).0)
columns_long (w ∷ widths) (suc at) ws h e =
    omega (arith, columns_long widths at ws (omega arith) e, (wider_long w (column_widths widths)).1)

-- ---- what cells show

line_of : (x : Form) → fits_cell x ≡ true → (r : ItemRun) × (x ≡ inline r)
line_of (inline r) h = (r, refl)
line_of (listed ps) h = absurd cc

pub cell_taken : (v : WideValue) (first : Attrs) (items : List Item) (s u w : State) → is_flat v ≡ true
    → HasShown (show s.attrs v) s u → u.run ≡ run_of first items → w.attrs ≡ u.attrs → w.errors ≡ u.errors
    → w.paragraphs ≡ u.paragraphs → w.run ≡ empty → HasCells (one_of (show s.attrs v)) s w (items ∷ [])
cell_taken v first items s u w flat h run attrs errors paragraphs gone =
    let found = line_of (show s.attrs v).form (fits_flat s.attrs v ∙ flat) in
    let adds : Adds (inline found.0) s u = subst (λ x. Adds x s u) found.1 h.adds in
    record {
      after = attrs ∙ h.after;
      errors = errors ∙ h.errors;
      long = refl;
      shown = λ clean. (
        gone,
        paragraphs ∙ adds.1,
        ap (λ xs. xs ∷ [])
            (sym (items_of_run first items) ∙ ap run_items (sym run ∙ adds.0 ∙ ap (λ q. beside q found.0) clean)
            ∙ sym (ap items_in found.1)),
      );
    }

map_append : {X Y : Type 0} (f : X → Y) (xs ys : List X) → map f (xs ++ ys) ≡ map f xs ++ map f ys
map_append f [] ys = refl
map_append f (x ∷ xs) ys = ap (λ zs. f x ∷ zs) (map_append f xs ys)

cells_both : (x y : AllShown) (s u w : State) (cs ds : List (List Item)) → HasCells x s u cs → HasCells y u w ds
    → HasCells (both_shown x y) s w (cs ++ ds)
cells_both x y s u w cs ds h k = record {
  after = k.after;
  errors = k.errors ∙ ap (λ es. es ++ y.errors) h.errors ∙ append_assoc s.errors x.errors y.errors;
  long = length-append cs ds ∙ ap₂ ◌+◌ h.long k.long ∙ sym (length-append x.each y.each);
  shown = λ clean.
      let first = h.shown clean in
      let second = k.shown first.0 in (
        second.0,
        second.1 ∙ first.1,
        ap₂ ◌++◌ first.2 second.2 ∙ sym (map_append (λ f. items_in f.0) x.each y.each),
      );
}

pub cells_done : (xs : List WideValue) (i : ℕ) (s : State) → length xs ≤ i
    → HasCells (show_all false s.attrs (vals (drop i xs))) s s []
cells_done xs i s past =
    let P : AllShown → Type 0 = λ x. HasCells x s s [] in
    subst P (sym (ap (λ ys. show_all false s.attrs (vals ys)) (drop_all i xs past) ∙ all_nothing s.attrs))
    (record {
      after = refl;
      errors = sym (append-nil s.errors);
      long = refl;
      shown = λ clean. (clean, refl, refl);
    })

pub cells_more : (xs : List WideValue) (i : ℕ) (v : WideValue) (s u w : State) (c : List Item)
    (more : List (List Item)) → i < length xs → v ≡ get_or xs i v → HasCells (one_of (show s.attrs v)) s u (c ∷ [])
    → HasCells (show_all false u.attrs (vals (drop (i + 1) xs))) u w more
    → HasCells (show_all false s.attrs (vals (drop i xs))) s w (c ∷ more)
cells_more xs i v s u w c more there is one rest =
    let P : AllShown → Type 0 = λ x. HasCells x s w (c ∷ more) in
    let Q : Attrs → Type 0 = λ a. HasCells (show_all false a (vals (drop (i + 1) xs))) u w more in
    subst P
    (sym (ap (λ ys. show_all false s.attrs (vals ys)) (first_at xs i v there is)
    ∙ all_first s.attrs v (vals (drop (i + 1) xs))))
    (cells_both (one_of (show s.attrs v)) (show_all false (show s.attrs v).after (vals (drop (i + 1) xs))) s u w
    (c ∷ []) more one (subst Q one.after rest))

-- the cells, where one more counts among those before
pub cells_pushed : (all : AllShown) (s w : State) (row new more : List (List Item)) (c : List Item)
    → HasCells all s w (row ++ c ∷ more) → new ≡ row ++ c ∷ [] → HasCells all s w (new ++ more)
cells_pushed all s w row new more c h e =
    subst (HasCells all s w) (sym (ap (λ xs. xs ++ more) e ∙ append_assoc row (c ∷ []) more)) h

pub cells_whole : (all : AllShown) (s w : State) (row new : List (List Item)) → HasCells all s w (row ++ [])
    → new ≡ row → HasCells all s w new
cells_whole all s w row new h e = subst (HasCells all s w) (append-nil row ∙ sym e) h

-- ---- what rows show

each_after : (a : Attrs) (xs : List WideValue)
    → after_each a (show_all false a (vals xs)).each ≡ (show_all false a (vals xs)).after
unfolding show_all
each_after a [] = refl
each_after a (x ∷ xs) = each_after (show a x).after xs

take_front : {X : Type 0} (n : ℕ) (xs ys : List X) → n ≡ length xs → take n (xs ++ ys) ≡ xs
take_front zero [] ys h = refl
take_front zero (x ∷ xs) ys h = absurd (omega arith)
take_front (suc n) [] ys h = absurd (omega arith)
take_front (suc n) (x ∷ xs) ys h = ap (λ zs. x ∷ zs) (take_front n xs ys (omega arith))

drop_front : {X : Type 0} (n : ℕ) (xs ys : List X) → n ≡ length xs → drop n (xs ++ ys) ≡ ys
drop_front zero [] ys h = refl
drop_front zero (x ∷ xs) ys h = absurd (omega arith)
drop_front (suc n) [] ys h = absurd (omega arith)
drop_front (suc n) (x ∷ xs) ys h = drop_front n xs ys (omega arith)

rows_split : (n : ℕ) (ns : List ℕ) (a : Attrs) (x y : List (Form × Attrs)) → n ≡ length x
    → shown_rows (n ∷ ns) a (x ++ y) ≡ (a, map (λ f. items_in f.0) x) ∷ shown_rows ns (after_each a x) y
rows_split n ns a x y h =
    ap₂ {C = List ShownRow} (λ t d. (a, map (λ f. items_in f.0) t) ∷ shown_rows ns (after_each a t) d)
    (take_front n x y h) (drop_front n x y h)

rows_cons : (row : List WideValue) (rows : List (List WideValue)) (s u w : State) (cells : List (List Item))
    (more : List ShownRow) → HasCells (show_all false s.attrs (vals row)) s u cells → HasRows rows u w more
    → HasRows (row ∷ rows) s w ((s.attrs, cells) ∷ more)
rows_cons row rows s u w cells more h k =
    let x : AllShown = show_all false s.attrs (vals row) in
    let y : AllShown = show_all false x.after (vals (all_cells rows)) in
    let whole : show_all false s.attrs (vals (all_cells (row ∷ rows))) ≡ both_shown x y =
    all_append s.attrs row (all_cells rows) in
    let Y : Attrs → AllShown = λ a. show_all false a (vals (all_cells rows)) in
    record {
      after = k.after ∙ ap (λ a. (Y a).after) h.after ∙ sym (ap (λ z. z.after) whole);
      errors = k.errors ∙ ap (λ es. es ++ (Y u.attrs).errors) h.errors
          ∙ ap (λ a. s.errors ++ x.errors ++ (Y a).errors) h.after
          ∙ append_assoc s.errors x.errors y.errors ∙ sym (ap (λ z. s.errors ++ z.errors) whole);
      long = ap₂ ◌∷◌ (h.long ∙ each_length s.attrs row) k.long;
      are = λ clean.
          let first = h.shown clean in
          let second = k.are first.0 in (
            second.0,
            second.1 ∙ first.1,
            ap₂ {C = List ShownRow} (λ c ms. (s.attrs, c) ∷ ms) first.2
                (second.2 ∙ ap (λ a. shown_rows (map length rows) a (Y a).each) h.after
                ∙ ap (λ a. shown_rows (map length rows) a y.each) (sym (each_after s.attrs row)))
                ∙ sym (rows_split (length row) (map length rows) s.attrs x.each y.each (sym (each_length s.attrs row)))
                ∙ sym (ap (λ z. shown_rows (map length (row ∷ rows)) s.attrs z.each) whole),
          );
    }

pub rows_more : (rows : List (List WideValue)) (i : ℕ) (row : List WideValue) (s u w : State)
    (cells : List (List Item)) (more : List ShownRow) → i < length rows → row ≡ get_or rows i row
    → HasCells (show_all false s.attrs (vals row)) s u cells → HasRows (drop (i + 1) rows) u w more
    → HasRows (drop i rows) s w ((s.attrs, cells) ∷ more)
rows_more rows i row s u w cells more there is h k =
    subst (λ rs. HasRows rs s w ((s.attrs, cells) ∷ more)) (sym (first_at rows i row there is))
    (rows_cons row (drop (i + 1) rows) s u w cells more h k)

rows_nothing : (s : State) → HasRows [] s s []
unfolding show_all
rows_nothing s = record {
  after = refl;
  errors = sym (append-nil s.errors);
  long = refl;
  are = λ clean. (clean, refl, refl);
}

pub rows_done : (rows : List (List WideValue)) (i : ℕ) (s : State) → length rows ≤ i → HasRows (drop i rows) s s []
rows_done rows i s past = subst (λ rs. HasRows rs s s []) (sym (drop_all i rows past)) (rows_nothing s)

pub rows_pushed : (rows : List (List WideValue)) (s w : State) (shown new more : List ShownRow) (row : ShownRow)
    → HasRows rows s w (shown ++ row ∷ more) → new ≡ shown ++ row ∷ [] → HasRows rows s w (new ++ more)
rows_pushed rows s w shown new more row h e =
    subst (HasRows rows s w) (sym (ap (λ xs. xs ++ more) e ∙ append_assoc shown (row ∷ []) more)) h

pub rows_whole : (rows : List (List WideValue)) (s w : State) (shown : List ShownRow) → HasRows rows s w (shown ++ [])
    → HasRows rows s w shown
rows_whole rows s w shown h = subst (HasRows rows s w) (append-nil shown) h

-- ---- rows as paragraphs

pub drop_first : {X : Type 0} (xs : List X) (i : ℕ) (x : X) (rest : List X) → drop i xs ≡ x ∷ rest
    → (i < length xs) × (x ≡ get_or xs i x) × (rest ≡ drop (i + 1) xs)
drop_first [] zero x rest e = absurd cc
drop_first [] (suc i) x rest e = absurd cc
drop_first (y ∷ xs) zero x rest e =
    let first : y ≡ x = cc in
    let others : xs ≡ rest = cc in
    (omega arith, sym first, sym others)
drop_first (y ∷ xs) (suc i) x rest e =
    let found = drop_first xs i x rest e in
    let place : suc (i + 1) ≡ suc i + 1 = omega arith in
    (omega (arith, found.0), found.1, found.2 ∙ ap (λ n. drop n (y ∷ xs)) place)

widths_at : (rows : List ShownRow) (at : ℕ) (row : ShownRow) → at < length rows → row ≡ get_or rows at row
    → map cells_across row.1 ≡ get_or (row_widths rows) at (map cells_across row.1)
widths_at [] at row there is = absurd (omega arith)
widths_at (r ∷ rows) zero row there is = ap (λ x. map cells_across x.1) is
widths_at (r ∷ rows) (suc at) row there is = widths_at rows at row (omega arith) is

sides_at : (rows : List ShownRow) (sides : List (List Side)) (at : ℕ) (row : ShownRow)
    → map (λ r. length r.1) rows ≡ map length sides → at < length rows → row ≡ get_or rows at row
    → length (get_or sides at []) ≡ length row.1
sides_at [] sides at row same there is = absurd (omega arith)
sides_at (r ∷ rows) [] at row same there is = absurd cc
sides_at (r ∷ rows) (ss ∷ sides) zero row same there is =
    let first : length r.1 ≡ length ss = cc in sym first ∙ ap (λ x. length x.1) (sym is)
sides_at (r ∷ rows) (ss ∷ sides) (suc at) row same there is =
    let others : map (λ r. length r.1) rows ≡ map length sides = cc in
    sides_at rows sides at row others (omega arith) is

pub as_many : (rows : List ShownRow) (sides : List (List Side)) → map (λ r. length r.1) rows ≡ map length sides
    → length sides ≡ length rows
as_many rows sides same = sym (length-map sides length) ∙ ap length (sym same) ∙ length-map rows (λ r. length r.1)

-- what a row is given by the plan
pub record RowFits (columns left right : List ℕ) (sides : List Side) (cells : List (List Item)) : Type 0 where
  pub columns_there : length cells ≤ length columns
  pub left_there : length left ≡ length cells
  pub right_there : length right ≡ length cells
  pub padded : padded_from 0 columns left right cells ≡ row_items columns sides cells

pub row_fits : (rows : List ShownRow) (sides : List (List Side)) (at : ℕ) (row : ShownRow) (left right : List ℕ)
    → map (λ r. length r.1) rows ≡ map length sides → at < length rows → row ≡ get_or rows at row
    → left ≡ get_or (all_pads left_pad (column_widths (row_widths rows)) sides (row_widths rows)) at left
    → right ≡ get_or (all_pads right_pad (column_widths (row_widths rows)) sides (row_widths rows)) at right
    → RowFits (column_widths (row_widths rows)) left right (get_or sides at []) row.1
row_fits rows sides at row left right same there is isl isr =
    let widths : List (List ℕ) = row_widths rows in
    let columns : List ℕ = column_widths widths in
    let own : List ℕ = map cells_across row.1 in
    let ss : List Side = get_or sides at [] in
    let long : length widths ≡ length rows = length-map rows (λ r. map cells_across r.1) in
    let within : at < length widths = omega (arith, there, long) in
    let many : length sides ≡ length widths = as_many rows sides same ∙ sym long in
    let iss : ss ≡ get_or sides at ss = side_there sides at (omega (arith, within, many)) in
    let isw : own ≡ get_or widths at own = widths_at rows at row there is in
    let l : left ≡ row_pads left_pad columns ss own =
    isl ∙ all_pads_at left_pad columns sides widths at ss own left within many iss isw in
    let r : right ≡ row_pads right_pad columns ss own =
    isr ∙ all_pads_at right_pad columns sides widths at ss own right within many iss isw in
    let cells : length own ≡ length row.1 = length-map row.1 cells_across in
    let wide : length own ≤ length columns = columns_long widths at own within isw in
    let sided : length ss ≡ length row.1 = sides_at rows sides at row same there is in
    let fit : length ss ≡ length own = sided ∙ sym cells in
    record {
      columns_there = omega (arith, cells, wide);
      left_there = ap length l ∙ pads_length left_pad columns ss own wide fit ∙ cells;
      right_there = ap length r ∙ pads_length right_pad columns ss own wide fit ∙ cells;
      padded = ap₂ (λ x y. padded_from 0 columns x y row.1) l r
          ∙ padded_is 0 columns ss row.1 (omega (arith, cells, wide)) sided;
    }
  where
    side_there : (xs : List (List Side)) (i : ℕ) → i < length xs → get_or xs i [] ≡ get_or xs i (get_or xs i [])
    side_there [] i h = absurd (omega arith)
    side_there (x ∷ xs) zero h = refl
    side_there (x ∷ xs) (suc i) h = side_there xs i (omega arith)

-- what a row is given, by the plan of the table
pub pads_there : (rows : List ShownRow) (sides : List (List Side)) (widths : List (List ℕ)) (plan : Plan) (at : ℕ)
    (row : ShownRow) (rest : List ShownRow) → map (λ r. length r.1) rows ≡ map length sides → widths ≡ row_widths rows
    → plan ≡ plan_of widths sides → drop at rows ≡ row ∷ rest
    → (at < length plan.left) × (at < length plan.right) × (at < length sides)
pads_there rows sides widths plan at row rest same w p d =
    let found = drop_first rows at row rest d in
    let long : length widths ≡ length rows = ap length w ∙ length-map rows (λ r. map cells_across r.1) in
    let many : length sides ≡ length widths = as_many rows sides same ∙ sym long in
    let left : length plan.left ≡ length widths =
    ap (λ x. length x.left) p ∙ all_pads_length left_pad (column_widths widths) sides widths many in
    let right : length plan.right ≡ length widths =
    ap (λ x. length x.right) p ∙ all_pads_length right_pad (column_widths widths) sides widths many in
    (omega (arith, found.0, long, left), omega (arith, found.0, long, right), omega (arith, found.0, long, many))

pub plan_fits : (rows : List ShownRow) (sides : List (List Side)) (widths : List (List ℕ)) (plan : Plan) (at : ℕ)
    (row : ShownRow) (rest : List ShownRow) (l r : List ℕ) → map (λ r. length r.1) rows ≡ map length sides
    → widths ≡ row_widths rows → plan ≡ plan_of widths sides → drop at rows ≡ row ∷ rest → l ≡ get_or plan.left at l
    → r ≡ get_or plan.right at r → RowFits plan.columns l r (get_or sides at []) row.1
plan_fits rows sides widths plan at row rest l r same w p d isl isr =
    let found = drop_first rows at row rest d in
    let is : plan ≡ plan_of (row_widths rows) sides = p ∙ ap (λ ws. plan_of ws sides) w in
    subst (λ x. RowFits x.columns l r (get_or sides at []) row.1) (sym is)
    (row_fits rows sides at row l r same found.0 found.1 (isl ∙ ap (λ x. get_or x.left at l) is)
    (isr ∙ ap (λ x. get_or x.right at r) is))

pub row_pushed : (columns : List ℕ) (sides : List (List Side)) (at : ℕ) (row : ShownRow) (rest : List ShownRow)
    (ps whole new : List Paragraph) (items : List Item) → at < length sides
    → items ≡ row_items columns (get_or sides at []) row.1
    → ps ++ row_paragraphs columns (drop at sides) (row ∷ rest) ≡ whole → new ≡ ps ++ paragraph items row.0 ∷ []
    → new ++ row_paragraphs columns (drop (at + 1) sides) rest ≡ whole
row_pushed columns sides at row rest ps whole new items there is so_far e =
    let more : List Paragraph = row_paragraphs columns (drop (at + 1) sides) rest in
    ap (λ q. q ++ more) (e ∙ ap (λ xs. ps ++ paragraph xs row.0 ∷ []) is)
    ∙ append_assoc ps (paragraph (row_items columns (get_or sides at []) row.1) row.0 ∷ []) more
    ∙ ap (λ ss. ps ++ row_paragraphs columns ss (row ∷ rest)) (sym (drop_more sides at [] there)) ∙ so_far

-- ---- `tabular`

pub shown_bad : (a : Attrs) (label : List ℕ) (v : WideValue) → shows_table v ≡ false
    → table_shown a label v ≡ bad a label
unfolding shows_table
shown_bad a label (text words at) h = refl
shown_bad a label (made l vs at) h =
    pick (grid_of (made l vs at)) (flat_below (levels_of vs) vs) h (fits_below (levels_of vs) a vs)
  where
    pick : (o : Option Grid) (flat : Bool) → is_table o flat ≡ false
        → cells_fit (show_below (levels_of vs) a vs).each ≡ flat
        → tabular_shown a label o (show_below (levels_of vs) a vs) ≡ bad a label
    pick None flat k f = refl
    pick (Some g) flat k f =
        ap (λ b. cond b (rows_shown a g.sides (show_below (levels_of vs) a vs)) (bad a label)) (f ∙ k)

shown_rows_of : (a : Attrs) (label : List ℕ) (v : WideValue) (g : Grid) → Some g ≡ grid_of v → shows_table v ≡ true
    → table_shown a label v ≡ rows_shown a g.sides (show_all false a (vals (all_cells g.rows)))
unfolding shows_table
shown_rows_of a label (text words at) g e h = absurd cc
shown_rows_of a label (made l vs at) g e h =
    let cells : AllShown = show_below (levels_of vs) a vs in
    let flat : flat_below (levels_of vs) vs ≡ true =
    ap (λ o. is_table o (flat_below (levels_of vs) vs)) e ∙ h in
    ap (λ o. tabular_shown a label o cells) (sym e)
    ∙ ap (λ b. cond b (rows_shown a g.sides cells) (bad a label)) (fits_below (levels_of vs) a vs ∙ flat)
    ∙ ap (rows_shown a g.sides) (below_all (levels_of vs) a vs
    ∙ ap (λ us. show_all false a (vals us)) (sym ((grid_holds l vs at g (sym e)).1)))

sides_long : (v : WideValue) (g : Grid) → Some g ≡ grid_of v → map length g.sides ≡ map length g.rows
sides_long (text words at) g e = absurd cc
sides_long (made l vs at) g e = (grid_holds l vs at g (sym e)).0

pub rows_long : (v : WideValue) (g : Grid) (s u : State) (shown : List ShownRow) → Some g ≡ grid_of v
    → HasRows g.rows s u shown → map (λ r. length r.1) shown ≡ map length g.sides
rows_long v g s u shown e h = h.long ∙ sym (sides_long v g e)

pub table_added : (label : List ℕ) (v : WideValue) (g : Grid) (s u w : State) (shown : List ShownRow)
    → Some g ≡ grid_of v → shows_table v ≡ true → HasRows g.rows s u shown
    → AddsParagraphs (table_paragraphs g.sides shown) u w → HasShown (table_shown s.attrs label v) s w
table_added label v g s u w shown e whole h k =
    let all : AllShown = show_all false s.attrs (vals (all_cells g.rows)) in
    subst (λ x. HasShown x s w) (sym (shown_rows_of s.attrs label v g e whole))
    (record {
      after = k.attrs ∙ h.after;
      errors = k.errors ∙ h.errors;
      adds = λ clean.
          let are = h.are clean in
          ap₂ (λ ps q. ps ++ run_ended q) k.paragraphs (k.run ∙ are.0)
          ∙ append-nil (u.paragraphs ++ table_paragraphs g.sides shown)
          ∙ ap₂ (λ ps rs. ps ++ table_paragraphs g.sides rs) are.1
          (are.2 ∙ ap (λ ns. shown_rows ns s.attrs all.each) (sym (sides_long v g e)));
    })
