-- A column after the last cluster of a row.
use Rattle.std.proofs.Common.{◌≡◌, ℕ, suc, ◌+◌, ◌≤◌, Bool, true, false, cond, List, [], ◌∷◌, ◌++◌, take, drop}
use Rattle.std.proofs.Common.{Option, Some, None, refl, sym, ap, ◌∙◌, arith, le-leb, inl, subst}
use Rattle.std.specs.Prelude.{slice_get, option_and_then, nat_lt}
use Rattle.std.specs.List.{cons_option}
use Rattle.std.proofs.lemmas.Option.{same_Some}
use Rattle.std.proofs.lemmas.List.Sums.{sum_by-cons}
use Rattle.tx_tree.specs.declared.places.Place.{Place}
use Rattle.tx_items.specs.declared.drawing.Item.{Item}
use Rattle.tx_items.specs.Cells.{item_cells, cells_across}
use Rattle.tx_layout.specs.declared.layout.Line.{Line}
use Rattle.tx_view_form.specs.Views.{UnitView}
use Rattle.tx_view_form.specs.Cells.{items_before, item_number}
use Rattle.tx_view_form.specs.Positions.{Mark, mark_of, marks_of, stop_of, nearest, place_by}
use Rattle.tx_moves.specs.Rows.{whole_place, start_place, stop_place, row_of}
use Rattle.tx_moves.specs.RowStops.{place_alone, is_past, last_start, stop_alone, stop_on, IsRowOf, IsDrawnUpTo, end_on}
use Rattle.tx_moves.proofs.Covering.{bare_cut, bare_item}
use Rattle.tx_moves.proofs.Seeing.{Among, among_more, starts_drawn, stop_is, stop_some}

among_in : (place : Mark → Place) (front back : List Item) (item : Item) (m : Mark) → mark_of item ≡ Some m
    → Among place (marks_of (front ++ item ∷ back)) (place m)
among_in place [] back item m has = by (mark_of item) has
  where
    by : (o : Option Mark) → o ≡ Some m → Among place (cons_option o (marks_of back)) (place m)
    by None e = absurd cc
    by (Some n) e = let same : n ≡ m = same_Some n m e in inl (ap place same)
among_in place (x ∷ xs) back item m has =
    among_more place (mark_of x) (marks_of (xs ++ item ∷ back)) (place m) (among_in place xs back item m has)

one_more : (o : Option Mark) (ms ns : List Mark) → cons_option o (ms ++ ns) ≡ cons_option o ms ++ ns
one_more None ms ns = refl
one_more (Some m) ms ns = refl

-- the items that end at a column or before it are at least the first of these
step : (from c : ℕ) (x : Item) (xs : List Item) → from + item_cells x ≤ c
    → items_before from (x ∷ xs) c ≡ suc (items_before (from + item_cells x) xs c)
step from c x xs low =
    let k : ℕ = items_before (from + item_cells x) xs c in
    let number : 1 + k ≡ suc k = omega arith in
    ap (λ b. cond b (1 + k) 0) (le-leb (from + item_cells x) c low) ∙ number

before_is : (from c : ℕ) (front back : List Item) (item : Item) (m : Mark) → mark_of item ≡ Some m
    → marks_of back ≡ [] → from + cells_across front + item_cells item ≤ c
    → marks_of (take (items_before from (front ++ item ∷ back) c) (front ++ item ∷ back)) ≡ marks_of front ++ m ∷ []
before_is from c [] back item m has bare low =
    let k : ℕ = items_before (from + item_cells item) back c in
    ap (λ n. marks_of (take n (item ∷ back))) (step from c item back (omega arith))
    ∙ ap (λ o. cons_option o (marks_of (take k back))) has ∙ ap (λ ms. m ∷ ms) (bare_cut k back bare).0
before_is from c (x ∷ xs) back item m has bare low =
    let rest : List Item = xs ++ item ∷ back in
    let sums = sum_by-cons item_cells x xs in
    ap (λ n. marks_of (take n (x ∷ rest))) (step from c x rest (omega arith))
    ∙ ap (cons_option (mark_of x)) (before_is (from + item_cells x) c xs back item m has bare (omega arith))
    ∙ one_more (mark_of x) (marks_of xs) (m ∷ [])

none_covers : (from c : ℕ) (front back : List Item) (item : Item) → marks_of back ≡ []
    → from + cells_across front + item_cells item ≤ c
    → option_and_then mark_of
    (slice_get (front ++ item ∷ back) (items_before from (front ++ item ∷ back) c)) ≡ None
none_covers from c [] back item bare low =
    ap (λ n. option_and_then mark_of (slice_get (item ∷ back) n)) (step from c item back (omega arith))
    ∙ bare_item back (items_before (from + item_cells item) back c) bare
none_covers from c (x ∷ xs) back item bare low =
    let rest : List Item = xs ++ item ∷ back in
    let sums = sum_by-cons item_cells x xs in
    ap (λ n. option_and_then mark_of (slice_get (x ∷ rest) n)) (step from c x rest (omega arith))
    ∙ none_covers (from + item_cells x) c xs back item bare (omega arith)

nearest_last : (path : List ℕ) (ms after : List Mark) (m : Mark) → nearest path (ms ++ m ∷ []) after ≡ stop_of path m
nearest_last path [] after m = refl
nearest_last path (x ∷ []) after m = refl
nearest_last path (x ∷ (y ∷ ys)) after m = nearest_last path (y ∷ ys) after m

start_last : (path : List ℕ) (other : Place) (ms : List Mark) (m : Mark)
    → last_start path other (ms ++ m ∷ []) ≡ start_place path m
start_last path other [] m = refl
start_last path other (x ∷ xs) m = start_last path (start_place path x) xs m

pub stop_after : (xs : List UnitView) (r goal : ℕ) (path : List ℕ) (line : Line) (front back : List Item) (item : Item)
    (m : Mark) → IsRowOf xs r path line → line.items ≡ front ++ item ∷ back → mark_of item ≡ Some m
    → marks_of back ≡ [] → line.indent + cells_across front + item_cells item ≤ goal
    → stop_on xs r goal ≡ Some (end_on xs r path m)
stop_after xs r goal path line front back item m row are has bare low =
    let n : ℕ = item_number line goal in
    let before : List Mark = marks_of (take n line.items) in
    let after : List Mark = marks_of (drop n line.items ++ []) in
    let last : Place = stop_place path m in
    let parts : before ≡ marks_of front ++ m ∷ [] =
    ap (λ l. marks_of (take (items_before line.indent l goal) l)) are
    ∙ before_is line.indent goal front back item m has bare low in
    let slot : option_and_then mark_of (slice_get line.items n) ≡ None =
    ap (λ l. option_and_then mark_of (slice_get l (items_before line.indent l goal))) are
    ∙ none_covers line.indent goal front back item bare low in
    let at : place_alone path line goal ≡ last =
    ap (λ o. whole_place (place_by o path before after)) (uncovered (nat_lt goal line.indent) slot)
    ∙ ap (λ ms. whole_place (nearest path ms after)) parts
    ∙ ap whole_place (nearest_last path (marks_of front) after m) in
    let among : Among (start_place path) (marks_of line.items) (start_place path m) =
    subst (λ l. Among (start_place path) (marks_of l) (start_place path m)) (sym are)
    (among_in (start_place path) front back item m has) in
    stop_is xs r path line row goal
    ∙ stop_some (start_place path) (marks_of line.items) (start_place path m) among (stop_alone xs r path line goal)
    ∙ ap (λ p. Some (cond (is_past r (row_of xs p)) (last_start path p before) p)) at
    ∙ ap (λ ms. Some (cond (is_past r (row_of xs last)) (last_start path last ms) last)) parts
    ∙ ap (λ p. Some (cond (is_past r (row_of xs last)) p last)) (start_last path last (marks_of front) m)
  where
    uncovered : (b : Bool) → option_and_then mark_of (slice_get line.items (item_number line goal)) ≡ None
        → option_and_then mark_of (cond b None (slice_get line.items (item_number line goal))) ≡ None
    uncovered true e = refl
    uncovered false e = e

pub start_drawn : (xs : List UnitView) (r : ℕ) (path : List ℕ) (line : Line) (front back : List Item) (item : Item)
    (m : Mark) → IsRowOf xs r path line → line.items ≡ front ++ item ∷ back → mark_of item ≡ Some m
    → IsDrawnUpTo xs (start_place path m) r
start_drawn xs r path line front back item m row are has =
    starts_drawn xs r path line row (start_place path m)
    (subst (λ l. Among (start_place path) (marks_of l) (start_place path m)) (sym are)
    (among_in (start_place path) front back item m has))
