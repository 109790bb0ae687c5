-- The first cluster of which an end is at a place: on a line, on lines and on stretches, one more at a time.
use Rattle.std.proofs.Common.{◌≡◌, ℕ, zero, suc, ◌+◌, ◌<◌, ◌≤◌, Bool, true, false, cond, List, [], ◌∷◌, ◌++◌, length}
use Rattle.std.proofs.Common.{map, take, drop, get_or, Option, Some, None, refl, sym, ap, ap₂, ◌∙◌, subst, arith}
use Rattle.std.specs.Prelude.{◌^◌, slice_get}
use Rattle.std.specs.List.{All, AllByRecursion, flat_map}
use Rattle.std.specs.Option.{option_map, option_or}
use Rattle.std.proofs.lemmas.List.{drop_more, drop_all, take_more, length-append, length-map, append-nil}
use Rattle.std.proofs.lemmas.List.Concat.{flat_map-append}
use Rattle.std.proofs.lemmas.List.Elements.{All-from_recursion, recursion_from_All}
use Rattle.std.proofs.lemmas.List.Sums.{sum_by-cons}
use Rattle.std.proofs.lemmas.Option.{slice_get_within, get_or_from_slice_get, some_pair_parts}
use Rattle.tx_tree.specs.declared.places.Place.{Place}
use Rattle.tx_items.specs.declared.drawing.Item.{Item}
use Rattle.tx_items.specs.Cells.{item_cells, cells_across}
use Rattle.tx_layout.specs.declared.layout.Line.{Line}
use Rattle.tx_part_items.specs.ItemsUnder.{item_under}
use Rattle.tx_part_layout.specs.LinesUnder.{line_under}
use Rattle.tx_moves.specs.Rows.{Extent, lower, extent_on, extent_in}
use Rattle.tx_moves.proofs.Covering.{in_lines}
use Rattle.tx_unit_layout.specs.Stretches.{WideStretch, stretches, stretch_lines}
use Rattle.tx_unit_layout.specs.Views.{unit_view}
use Rattle.tx_unit_layout.specs.declared.shown.Shown.{Shown}
use Rattle.tx_unit_layout.proofs.Stretching.{unit_lines}
use Rattle.tx_view.specs.declared.ends.End.{End}
use Rattle.tx_view.specs.Ends.{of_end, has_end, end_cell, end_on_line, end_on_lines, IsNarrow}
use Rattle.tx_view.proofs.Deeper.{cells_under}
use Rattle.tx_view.proofs.Neighbours.{all_parts}

-- ---- on a line

-- the cell of the first item that passes a test
abbrev pub cell_from : End → (Item → Bool) → ℕ → List Item → Option (ℕ × ℕ)
cell_from end test from xs = option_map (end_cell end) (extent_on test from xs)

cell_step : (end : End) (test : Item → Bool) (from : ℕ) (x : Item) (xs : List Item)
    → cell_from end test from (x ∷ xs)
    ≡ cond (test x) (Some (0, of_end end from (from + item_cells x))) (cell_from end test (from + item_cells x) xs)
cell_step end test from x xs = by (test x)
  where
    by : (b : Bool)
        → option_map (end_cell end) (cond b (Some (record { row = 0; from = from; to = from + item_cells x }))
        (extent_on test (from + item_cells x) xs))
        ≡ cond b (Some (0, of_end end from (from + item_cells x))) (cell_from end test (from + item_cells x) xs)
    by true = refl
    by false = refl

next_of : {X : Type 0} (xs : List X) (i : ℕ) (x : X) → i < length xs → x ≡ get_or xs i x
    → drop i xs ≡ x ∷ drop (i + 1) xs
next_of xs i x lt is = drop_more xs i x lt ∙ ap (λ y. y ∷ drop (i + 1) xs) (sym is)

module _ (end : End) (test : Item → Bool) (xs : List Item) (all : Option (ℕ × ℕ)) (from i : ℕ) (x : Item)
    (lt : i < length xs) (is : x ≡ get_or xs i x) (so : all ≡ cell_from end test from (drop i xs)) where
  next_cell : (b : Bool) → b ≡ test x
      → all ≡ cond b (Some (0, of_end end from (from + item_cells x)))
      (cell_from end test (from + item_cells x) (drop (i + 1) xs))
  next_cell b e =
      so ∙ ap (cell_from end test from) (next_of xs i x lt is) ∙ cell_step end test from x (drop (i + 1) xs)
      ∙ ap (λ t. cond t (Some (0, of_end end from (from + item_cells x)))
      (cell_from end test (from + item_cells x) (drop (i + 1) xs))) (sym e)

  pub cell_here : (b : Bool) (column : ℕ) → b ≡ test x → b ≡ true → column ≡ of_end end from (from + item_cells x)
      → Some (0, column) ≡ all
  cell_here b column e here found =
      ap (λ c. Some (0, c)) found
      ∙ sym (next_cell b e ∙ ap (λ t. cond t (Some (0, of_end end from (from + item_cells x)))
      (cell_from end test (from + item_cells x) (drop (i + 1) xs))) here)

  pub cell_later : (b : Bool) → b ≡ test x → b ≡ false
      → all ≡ cell_from end test (from + item_cells x) (drop (i + 1) xs)
  cell_later b e lacks =
      next_cell b e ∙ ap (λ t. cond t (Some (0, of_end end from (from + item_cells x)))
      (cell_from end test (from + item_cells x) (drop (i + 1) xs))) lacks

pub no_cell : (end : End) (test : Item → Bool) (xs : List Item) (all : Option (ℕ × ℕ)) (from i : ℕ) → length xs ≤ i
    → all ≡ cell_from end test from (drop i xs) → None ≡ all
no_cell end test xs all from i le so =
    sym (so ∙ ap (cell_from end test from) (drop_all i xs le))

-- the columns that are left fit
pub next_fits : (xs : List Item) (from i : ℕ) (x : Item) → i < length xs → x ≡ get_or xs i x
    → from + cells_across (drop i xs) < 2 ^ 32 → from + item_cells x + cells_across (drop (i + 1) xs) < 2 ^ 32
next_fits xs from i x lt is h =
    omega (
      arith,
      ap cells_across (next_of xs i x lt is),
      sum_by-cons item_cells x (drop (i + 1) xs),
      h,
    )

-- ---- on lines

-- so many rows lower
abbrev pub further : ℕ → ℕ × ℕ → ℕ × ℕ
further n p = (n + p.0, p.1)

pub further_none : (o : Option (ℕ × ℕ)) → option_map (further 0) o ≡ o
further_none None = refl
further_none (Some p) = ap (λ n. Some (n, p.1)) (omega arith)

further_twice : (n m : ℕ) (o : Option (ℕ × ℕ)) → option_map (further n) (option_map (further m) o)
    ≡ option_map (further (n + m)) o
further_twice n m None = refl
further_twice n m (Some p) = ap (λ k. Some (k, p.1)) (omega arith)

lowered : (end : End) (n : ℕ) (o : Option Extent)
    → option_map (end_cell end) (option_map (lower n) o) ≡ option_map (further n) (option_map (end_cell end) o)
lowered end n None = refl
lowered end n (Some e) = refl

either_of : {A B : Type 0} (f : A → B) (o p : Option A)
    → option_map f (option_or o p) ≡ option_or (option_map f o) (option_map f p)
either_of f None p = refl
either_of f (Some e) p = refl

-- the cell of a line, or else those of the lines after it
cells_step : (end : End) (path : List ℕ) (at : Place) (l : Line) (ls : List Line)
    → end_on_lines end path at (l ∷ ls)
    ≡ option_or (end_on_line end path at l) (option_map (further 1) (end_on_lines end path at ls))
cells_step end path at l ls =
    either_of (end_cell end) (extent_on (has_end end path at) l.indent l.items)
    (option_map (lower 1) (extent_in (has_end end path at) ls))
    ∙ ap (option_or (end_on_line end path at l)) (lowered end 1 (extent_in (has_end end path at) ls))

module _ (end : End) (path : List ℕ) (at : Place) (ls : List Line) (all : Option (ℕ × ℕ)) (i : ℕ) (l : Line)
    (lt : i < length ls) (is : l ≡ get_or ls i l)
    (so : all ≡ option_map (further i) (end_on_lines end path at (drop i ls))) where
  next_cells : all ≡ option_map (further i)
      (option_or (end_on_line end path at l) (option_map (further 1) (end_on_lines end path at (drop (i + 1) ls))))
  next_cells =
      so ∙ ap (λ ks. option_map (further i) (end_on_lines end path at ks)) (next_of ls i l lt is)
      ∙ ap (option_map (further i)) (cells_step end path at l (drop (i + 1) ls))

  pub cells_here : (r : Option ℕ) (column : ℕ) → option_map (λ c. (0, c)) r ≡ end_on_line end path at l
      → r ≡ Some column → Some (i, column) ≡ all
  cells_here r column found some =
      ap (λ n. Some (n, column)) (omega arith)
      ∙ sym (next_cells
      ∙ ap (λ o. option_map (further i)
      (option_or o (option_map (further 1) (end_on_lines end path at (drop (i + 1) ls)))))
      (sym found ∙ ap (option_map (λ c. (0, c))) some))

  pub cells_later : (r : Option ℕ) → option_map (λ c. (0, c)) r ≡ end_on_line end path at l → r ≡ None
      → all ≡ option_map (further (i + 1)) (end_on_lines end path at (drop (i + 1) ls))
  cells_later r found none =
      next_cells
      ∙ ap (λ o. option_map (further i)
      (option_or o (option_map (further 1) (end_on_lines end path at (drop (i + 1) ls)))))
      (sym found ∙ ap (option_map (λ c. (0, c))) none)
      ∙ further_twice i 1 (end_on_lines end path at (drop (i + 1) ls))

pub no_cells : (end : End) (path : List ℕ) (at : Place) (ls : List Line) (all : Option (ℕ × ℕ)) (i : ℕ)
    → length ls ≤ i → all ≡ option_map (further i) (end_on_lines end path at (drop i ls)) → None ≡ all
no_cells end path at ls all i le so =
    sym (so ∙ ap (λ ks. option_map (further i) (end_on_lines end path at ks)) (drop_all i ls le))

-- ---- on stretches

or_further : (n : ℕ) (o p q : Option (ℕ × ℕ))
    → option_or o (option_map (further 1) (option_or p (option_map (further n) q)))
    ≡ option_or (option_or o (option_map (further 1) p)) (option_map (further (1 + n)) q)
or_further n (Some c) p q = refl
or_further n None (Some c) q = refl
or_further n None None q = further_twice 1 n q

cells_append : (end : End) (path : List ℕ) (at : Place) (ks ls : List Line)
    → end_on_lines end path at (ks ++ ls)
    ≡ option_or (end_on_lines end path at ks) (option_map (further (length ks)) (end_on_lines end path at ls))
cells_append end path at [] ls = sym (further_none (end_on_lines end path at ls))
cells_append end path at (k ∷ ks) ls =
    let many : 1 + length ks ≡ suc (length ks) = omega arith in
    cells_step end path at k (ks ++ ls)
    ∙ ap (λ o. option_or (end_on_line end path at k) (option_map (further 1) o)) (cells_append end path at ks ls)
    ∙ or_further (length ks) (end_on_line end path at k) (end_on_lines end path at ks) (end_on_lines end path at ls)
    ∙ ap (λ o. option_or o (option_map (further (1 + length ks)) (end_on_lines end path at ls)))
    (sym (cells_step end path at k ks))
    ∙ ap (λ n. option_or (end_on_lines end path at (k ∷ ks)) (option_map (further n) (end_on_lines end path at ls)))
    many

-- the lines of stretches
abbrev pub lines_in : List WideStretch → List Line
lines_in ss = flat_map stretch_lines ss

module _ (end : End) (path : List ℕ) (at : Place) (ss : List WideStretch) (all : Option (ℕ × ℕ)) (above k : ℕ)
    (s : WideStretch) (there : slice_get ss k ≡ Some s)
    (so : all ≡ option_map (further above) (end_on_lines end path at (lines_in (drop k ss)))) where
  split : lines_in (drop k ss) ≡ stretch_lines s ++ lines_in (drop (k + 1) ss)
  split =
      ap lines_in (next_of ss k s (slice_get_within ss k s there) (sym (get_or_from_slice_get ss k s s there)))

  next_stretch : all ≡ option_map (further above)
      (option_or (end_on_lines end path at (stretch_lines s))
      (option_map (further (length (stretch_lines s))) (end_on_lines end path at (lines_in (drop (k + 1) ss)))))
  next_stretch =
      so ∙ ap (λ ls. option_map (further above) (end_on_lines end path at ls)) split
      ∙ ap (option_map (further above)) (cells_append end path at (stretch_lines s) (lines_in (drop (k + 1) ss)))

  pub stretch_here : (r : Option (ℕ × ℕ)) (row column : ℕ) → r ≡ end_on_lines end path at (stretch_lines s)
      → r ≡ Some (row, column) → Some (above + row, column) ≡ all
  stretch_here r row column found some =
      sym (next_stretch
      ∙ ap (λ o. option_map (further above) (option_or o (option_map (further (length (stretch_lines s)))
      (end_on_lines end path at (lines_in (drop (k + 1) ss)))))) (sym found ∙ some))

  pub stretch_later : (r : Option (ℕ × ℕ)) → r ≡ end_on_lines end path at (stretch_lines s) → r ≡ None
      → all ≡ option_map (further (above + length s.lines)) (end_on_lines end path at (lines_in (drop (k + 1) ss)))
  stretch_later r found none =
      next_stretch
      ∙ ap (λ o. option_map (further above) (option_or o (option_map (further (length (stretch_lines s)))
      (end_on_lines end path at (lines_in (drop (k + 1) ss)))))) (sym found ∙ none)
      ∙ further_twice above (length (stretch_lines s)) (end_on_lines end path at (lines_in (drop (k + 1) ss)))
      ∙ ap (λ n. option_map (further (above + n)) (end_on_lines end path at (lines_in (drop (k + 1) ss))))
      (length-map s.lines (line_under s.part))

pub no_stretch : (end : End) (path : List ℕ) (at : Place) (ss : List WideStretch) (all : Option (ℕ × ℕ)) (above k : ℕ)
    → length ss ≤ k → all ≡ option_map (further above) (end_on_lines end path at (lines_in (drop k ss))) → None ≡ all
no_stretch end path at ss all above k le so =
    sym (so ∙ ap (λ ts. option_map (further above) (end_on_lines end path at (lines_in ts))) (drop_all k ss le))

-- how many lines there are up to a stretch
pub lines_more : (ss : List WideStretch) (k : ℕ) (s : WideStretch) (above : ℕ) → slice_get ss k ≡ Some s
    → above ≡ length (lines_in (take k ss)) → above + length s.lines ≡ length (lines_in (take (k + 1) ss))
lines_more ss k s above there so =
    let more : lines_in (take (k + 1) ss) ≡ lines_in (take k ss) ++ stretch_lines s =
    ap lines_in (take_more ss k s (slice_get_within ss k s there)
    ∙ ap (λ t. take k ss ++ t ∷ []) (get_or_from_slice_get ss k s s there))
    ∙ flat_map-append stretch_lines (take k ss) (s ∷ [])
    ∙ ap (λ ls. lines_in (take k ss) ++ ls) (append-nil (stretch_lines s)) in
    omega (
      arith,
      so,
      ap length more,
      length-append (lines_in (take k ss)) (stretch_lines s),
      length-map s.lines (line_under s.part),
    )

pub lines_fit : (ss : List WideStretch) (k : ℕ) → length (lines_in (take k ss)) ≤ length (lines_in ss)
lines_fit [] zero = omega arith
lines_fit [] (suc k) = omega arith
lines_fit (s ∷ ss) zero = omega arith
lines_fit (s ∷ ss) (suc k) =
    omega (
      arith,
      length-append (stretch_lines s) (lines_in (take k ss)),
      length-append (stretch_lines s) (lines_in ss),
      lines_fit ss k,
    )

-- ---- what is found is on one of the lines

pub cell_within : (end : End) (path : List ℕ) (at : Place) (ls : List Line) (r : Option (ℕ × ℕ)) (row column : ℕ)
    → r ≡ end_on_lines end path at ls → r ≡ Some (row, column) → row < length ls
cell_within end path at ls r row column found some =
    by (extent_in (has_end end path at) ls) refl (sym found ∙ some)
  where
    by : (o : Option Extent) → extent_in (has_end end path at) ls ≡ o
        → option_map (end_cell end) o ≡ Some (row, column) → row < length ls
    by None g h = absurd cc
    by (Some e) g h =
        subst (λ n. n < length ls) (some_pair_parts e.row row (of_end end e.from e.to) column h).0
        (in_lines (has_end end path at) ls e g)

-- ---- columns of stretches

narrow_across : (b : List ℕ) (xs : List Item) → cells_across (map (item_under b) xs) ≡ cells_across xs
narrow_across b [] = refl
narrow_across b (x ∷ xs) =
    omega (
      arith,
      sum_by-cons item_cells (item_under b x) (map (item_under b) xs),
      sum_by-cons item_cells x xs,
      cells_under b x,
      narrow_across b xs,
    )

narrow_lines : (b : List ℕ) (ls : List Line) → AllByRecursion IsNarrow (map (line_under b) ls)
    → AllByRecursion IsNarrow ls
narrow_lines b [] h = tt
narrow_lines b (l ∷ ls) h = (omega (arith, narrow_across b l.items, h.0), narrow_lines b ls h.1)

narrow_stretch : (ss : List WideStretch) (i : ℕ) (s : WideStretch) → AllByRecursion IsNarrow (lines_in ss)
    → slice_get ss i ≡ Some s → AllByRecursion IsNarrow s.lines
narrow_stretch [] i s h there = cc
narrow_stretch (t ∷ ss) zero s h there =
    let same : t ≡ s = cc in
    subst (λ (r : WideStretch). AllByRecursion IsNarrow r.lines) same
    (narrow_lines t.part t.lines (all_parts IsNarrow (stretch_lines t) (lines_in ss) h).0)
narrow_stretch (t ∷ ss) (suc i) s h there =
    narrow_stretch ss i s (all_parts IsNarrow (stretch_lines t) (lines_in ss) h).1 there

-- if the lines of a unit are within so many columns, so are those of its stretches
pub narrow_in_stretch : (x : Shown) (i : ℕ) (s : WideStretch) → All IsNarrow (unit_view x).lines
    → slice_get (stretches x) i ≡ Some s → All IsNarrow s.lines
narrow_in_stretch x i s h there =
    All-from_recursion IsNarrow s.lines
    (narrow_stretch (stretches x) i s
    (recursion_from_All IsNarrow (lines_in (stretches x)) (subst (λ ls. All IsNarrow ls) (unit_lines x) h)) there)
