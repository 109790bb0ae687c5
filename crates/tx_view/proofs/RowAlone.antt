-- The row of a place by one unit alone, and that it is the row among all units.
use Rattle.std.proofs.Common.{◌≡◌, ℕ, zero, suc, ◌+◌, ◌-◌, ◌<◌, ◌≤◌, Bool, true, false, ◌&&◌, ◌==◌, cond, List, []}
use Rattle.std.proofs.Common.{◌∷◌, ◌++◌, length}
use Rattle.std.proofs.Common.{take, drop, get_or, nat_eq, Option, Some, None, refl, sym, ap, ap₂, ◌∙◌, subst, arith}
use Rattle.std.proofs.Common.{length-append, take-append-drop}
use Rattle.std.specs.Prelude.{option_and_then, is_some, nat_lt, slice_get}
use Rattle.std.specs.List.{list_any, position, starts_with}
use Rattle.std.specs.Option.{option_map, option_or}
use Rattle.std.specs.Str.{bytes_eq}
use Rattle.std.proofs.lemmas.Bool.{or_parts, ltb-true}
use Rattle.std.proofs.lemmas.Bool.Decides.{Decides-eqb}
use Rattle.std.proofs.lemmas.List.{map-append, length-map, drop_more, take-map}
use Rattle.std.proofs.lemmas.Slice.Eq.{bytes_eq-Decides, starts_is}
use Rattle.tx_tree.specs.declared.places.Place.{Place}
use Rattle.tx_layout.specs.declared.layout.Line.{Line}
use Rattle.tx_parts.proofs.Maps.{or_none}
use Rattle.tx_view_form.specs.Views.{UnitView, lines_of}
use Rattle.tx_view_form.specs.Cells.{row_in}
use Rattle.tx_view_form.specs.Positions.{Mark}
use Rattle.tx_moves.specs.Rows.{Extent, lower, first_in, begun_in, ended_in, bare_by, bare_in, begun_at, ended_at}
use Rattle.tx_moves.specs.Rows.{bare_at, row_of, IsInUnit}
use Rattle.tx_moves.proofs.Bounding.{row_in_unit}
use Rattle.tx_unit_layout.specs.Views.{unit_view}
use Rattle.tx_unit_layout.specs.declared.shown.Shown.{Shown}
use Rattle.tx_view.specs.declared.ends.End.TheVariants.{Start, Stop}
use Rattle.tx_view.specs.Ends.{end_on_lines, row_on_lines, bare_indent}
use Rattle.tx_view.specs.Marks.{first_of}
use Rattle.tx_view.specs.Near.{is_above}
use Rattle.tx_view.specs.Units.{unit_views, sums_from, row_counts, AreAllApart}
use Rattle.tx_view.proofs.EndsFound.{further}
use Rattle.tx_view.proofs.EndsUnder.{NoRest, place_after, either_cell, none_below, none_bare, row_below, no_row_below}
use Rattle.tx_view.proofs.Ranges.{none_above_before, none_above_behind}

-- ---- one unit

-- the cells of the three ways in which a place is drawn
abbrev cells_of : Option Extent → Option Extent → Option Extent → Option (ℕ × ℕ)
cells_of o p q =
    either_cell (option_map (λ e. (e.row, e.from)) o) (option_map (λ e. (e.row, e.to)) p) q

pub row_alone_none : (x : UnitView) (at : Place) → x.path ≡ None → None ≡ row_of (x ∷ []) at
row_alone_none x at e =
    sym (ap (λ o. cells_of (option_or (option_and_then (λ path. begun_in at path x.lines) o) None)
    (option_or (option_and_then (λ path. ended_in at path x.lines) o) None)
    (option_or (option_and_then (λ path. bare_in at path x.lines) o) None)) e)

row_alone_some : (x : UnitView) (at : Place) (path : List ℕ) → x.path ≡ Some path
    → row_of (x ∷ []) at ≡ row_on_lines path at x.lines
row_alone_some x at path e =
    ap (λ o. cells_of (option_or (option_and_then (λ p. begun_in at p x.lines) o) None)
    (option_or (option_and_then (λ p. ended_in at p x.lines) o) None)
    (option_or (option_and_then (λ p. bare_in at p x.lines) o) None)) e
    ∙ ap (λ o. cells_of o (option_or (ended_in at path x.lines) None) (option_or (bare_in at path x.lines) None))
    (or_none (begun_in at path x.lines))
    ∙ ap (λ o. cells_of (begun_in at path x.lines) o (option_or (bare_in at path x.lines) None))
    (or_none (ended_in at path x.lines))
    ∙ ap (cells_of (begun_in at path x.lines) (ended_in at path x.lines)) (or_none (bare_in at path x.lines))

-- a place below the path of the unit
pub row_alone_below : (x : UnitView) (at : Place) (path rest : List ℕ) (r : Option (ℕ × ℕ)) → x.path ≡ Some path
    → at.path ≡ path ++ rest → r ≡ row_on_lines [] (place_after rest at.offset) x.lines → r ≡ row_of (x ∷ []) at
row_alone_below x at path rest r e below is =
    is ∙ sym (row_below path rest at x.lines below) ∙ sym (row_alone_some x at path e)

pub row_alone_not : (x : UnitView) (at : Place) (path : List ℕ) → x.path ≡ Some path → NoRest at.path path
    → None ≡ row_of (x ∷ []) at
row_alone_not x at path e lacks =
    sym (row_alone_some x at path e ∙ no_row_below path at x.lines lacks)

-- ---- the three ways, of a place that is given from the unit's tree

-- a place whose path is longer, or which has another offset, is not that of the unit
bare_not : (steps : List ℕ) (offset : ℕ) (ms : List Mark) (ls : List Line)
    → (bytes_eq steps [] && (offset == 0)) ≡ false → bare_by ms (place_after steps offset) [] ls ≡ None
bare_not steps offset (m ∷ ms) ls e = refl
bare_not steps offset [] [] e = refl
bare_not steps offset [] (l ∷ ls) e =
    ap (λ b. cond b (Some (record { row = 0; from = l.indent; to = l.indent })) None) e

bare_is : (steps : List ℕ) (offset : ℕ) (ms : List Mark) (ls : List Line)
    → (bytes_eq steps [] && (offset == 0)) ≡ true
    → option_map {U = ℕ × ℕ} (λ e. (e.row, e.from)) (bare_by ms (place_after steps offset) [] ls)
    ≡ option_map {U = ℕ × ℕ} (λ c. (0, c)) (bare_indent ms ls)
bare_is steps offset (m ∷ ms) ls e = refl
bare_is steps offset [] [] e = refl
bare_is steps offset [] (l ∷ ls) e =
    ap (λ b. option_map {U = ℕ × ℕ} (λ (d : Extent). (d.row, d.from))
    (cond b (Some (record { row = 0; from = l.indent; to = l.indent })) None)) e

module _ (steps : List ℕ) (offset : ℕ) (ls : List Line) (ms : List Mark) where
  abbrev begun_cell : Option (ℕ × ℕ)
  begun_cell = end_on_lines Start [] (place_after steps offset) ls

  abbrev ended_cell : Option (ℕ × ℕ)
  ended_cell = end_on_lines Stop [] (place_after steps offset) ls

  abbrev all_cells : Option (ℕ × ℕ)
  all_cells = either_cell begun_cell ended_cell (bare_by ms (place_after steps offset) [] ls)

  pub by_begun : (p : ℕ × ℕ) → begun_cell ≡ Some p → Some p ≡ all_cells
  by_begun p e = sym (ap (λ o. either_cell o ended_cell (bare_by ms (place_after steps offset) [] ls)) e)

  pub by_ended : (p : ℕ × ℕ) → begun_cell ≡ None → ended_cell ≡ Some p → Some p ≡ all_cells
  by_ended p none e =
      sym (ap (λ o. either_cell o ended_cell (bare_by ms (place_after steps offset) [] ls)) none
      ∙ ap (λ o. either_cell None o (bare_by ms (place_after steps offset) [] ls)) e)

  by_neither : begun_cell ≡ None → ended_cell ≡ None
      → all_cells ≡ option_map (λ e. (e.row, e.from)) (bare_by ms (place_after steps offset) [] ls)
  by_neither none lacks =
      ap (λ o. either_cell o ended_cell (bare_by ms (place_after steps offset) [] ls)) none
      ∙ ap (λ o. either_cell None o (bare_by ms (place_after steps offset) [] ls)) lacks

  pub by_none : begun_cell ≡ None → ended_cell ≡ None → (bytes_eq steps [] && (offset == 0)) ≡ false
      → None ≡ all_cells
  by_none none lacks e =
      sym (by_neither none lacks ∙ ap (option_map {U = ℕ × ℕ} (λ d. (d.row, d.from))) (bare_not steps offset ms ls e))

  pub by_bare : (r : Option ℕ) → begun_cell ≡ None → ended_cell ≡ None → length steps ≡ 0 → offset ≡ 0
      → r ≡ bare_indent ms ls → option_map {U = ℕ × ℕ} (λ c. (0, c)) r ≡ all_cells
  by_bare r none lacks empty zero_offset is =
      ap (option_map {U = ℕ × ℕ} (λ c. (0, c))) is
      ∙ sym (by_neither none lacks ∙ bare_is steps offset ms ls (here steps empty zero_offset))
    where
      here : (xs : List ℕ) → length xs ≡ 0 → offset ≡ 0 → (bytes_eq xs [] && (offset == 0)) ≡ true
      here [] e f = (Decides-eqb offset 0).1 f
      here (x ∷ xs) e f = absurd (omega (arith, e))

pub longer_not : (steps : List ℕ) (offset : ℕ) → (length steps ≡ 0 → ⊥) → (bytes_eq steps [] && (offset == 0)) ≡ false
longer_not [] offset lacks = absurd (lacks refl)
longer_not (x ∷ xs) offset lacks = refl

pub other_not : (steps : List ℕ) (offset : ℕ) → (offset ≡ 0 → ⊥) → (bytes_eq steps [] && (offset == 0)) ≡ false
other_not [] offset lacks = by (offset == 0) refl
  where
    by : (b : Bool) → (offset == 0) ≡ b → b ≡ false
    by false e = refl
    by true e = absurd (lacks ((Decides-eqb offset 0).0 e))
other_not (x ∷ xs) offset lacks = refl

-- ---- the indent of a unit without marks

pub marked_indent : (ms : List Mark) (ls : List Line) → is_some (first_of ms) ≡ true → None ≡ bare_indent ms ls
marked_indent [] ls e = absurd cc
marked_indent (m ∷ ms) ls e = refl

pub empty_indent : (ms : List Mark) (ls : List Line) → length ls ≡ 0 → None ≡ bare_indent ms ls
empty_indent (m ∷ ms) ls e = refl
empty_indent [] [] e = refl
empty_indent [] (l ∷ ls) e = absurd (omega (arith, e))

pub first_indent : (ms : List Mark) (ls : List Line) (l : Line) → is_some (first_of ms) ≡ false
    → slice_get ls 0 ≡ Some l → Some l.indent ≡ bare_indent ms ls
first_indent (m ∷ ms) ls l e there = absurd cc
first_indent [] [] l e there = absurd cc
first_indent [] (k ∷ ks) l e there =
    let same : Some k ≡ Some l = there in
    sym (ap (option_map (λ (j : Line). j.indent)) same)

-- ---- among units

-- so many rows lower
or_lower : (n m : ℕ) (o p q : Option Extent)
    → option_or o (option_map (lower n) (option_or p (option_map (lower m) q)))
    ≡ option_or (option_or o (option_map (lower n) p)) (option_map (lower (n + m)) q)
or_lower n m (Some e) p q = refl
or_lower n m None (Some e) q = refl
or_lower n m None None None = refl
or_lower n m None None (Some e) =
    ap (λ r. Some (record { row = r; from = e.from; to = e.to })) (omega arith)

lower_none : (o : Option Extent) → o ≡ option_map (lower 0) o
lower_none None = refl
lower_none (Some e) = ap (λ r. Some (record { row = r; from = e.from; to = e.to })) (omega arith)

abbrev Finds : Type 0
Finds = List ℕ → List Line → Option Extent

first_append : (find : Finds) (xs ys : List UnitView)
    → first_in find (xs ++ ys)
    ≡ option_or (first_in find xs) (option_map (lower (length (lines_of xs))) (first_in find ys))
first_append find [] ys = lower_none (first_in find ys)
first_append find (x ∷ xs) ys =
    let own : Option Extent = option_and_then (λ path. find path x.lines) x.path in
    ap (λ o. option_or own (option_map (lower (length x.lines)) o)) (first_append find xs ys)
    ∙ or_lower (length x.lines) (length (lines_of xs)) own (first_in find xs) (first_in find ys)
    ∙ ap (λ n. option_or (first_in find (x ∷ xs)) (option_map (lower n) (first_in find ys)))
    (sym (length-append x.lines (lines_of xs)))

-- nothing is found in a unit whose path doesn't begin that of the place
abbrev pub IsOwn : Finds → Place → Type 0
IsOwn find at = (path : List ℕ) (lines : List Line) → NoRest at.path path → find path lines ≡ None

no_rest : (at : Place) (path : List ℕ) → starts_with nat_eq at.path path ≡ false → NoRest at.path path
no_rest at path e rest is =
    let starts : starts_with nat_eq at.path path ≡ true =
    (starts_is Decides-eqb at.path path (starts_with nat_eq at.path path) refl).1 rest is in
    cc

module _ (find : Finds) (at : Place) (own : IsOwn find at) where
  none_in : (o : Option (List ℕ)) (lines : List Line) → is_above o at ≡ false
      → option_and_then (λ path. find path lines) o ≡ None
  none_in None lines e = refl
  none_in (Some path) lines e = own path lines (no_rest at path e)

  none_found : (xs : List UnitView) → list_any (λ x. is_above x.path at) xs ≡ false → first_in find xs ≡ None
  none_found [] e = refl
  none_found (x ∷ xs) e =
      let parts = or_parts (is_above x.path at) (list_any (λ y. is_above y.path at) xs) e in
      ap₂ (λ o p. option_or o (option_map (lower (length x.lines)) p)) (none_in x.path x.lines parts.0)
      (none_found xs parts.1)

  -- only the unit between these is looked into
  found_between : (before behind : List UnitView) (x : UnitView)
      → list_any (λ y. is_above y.path at) before ≡ false → list_any (λ y. is_above y.path at) behind ≡ false
      → first_in find (before ++ x ∷ behind)
      ≡ option_map (lower (length (lines_of before))) (first_in find (x ∷ []))
  found_between before behind x e f =
      first_append find before (x ∷ behind)
      ∙ ap (λ o. option_or o (option_map (lower (length (lines_of before))) (first_in find (x ∷ behind))))
      (none_found before e)
      ∙ ap (λ o. option_map (lower (length (lines_of before)))
      (option_or (option_and_then (λ path. find path x.lines) x.path) (option_map (lower (length x.lines)) o)))
      (none_found behind f)

begun_own : (at : Place) → IsOwn (begun_in at) at
begun_own at path lines lacks = none_below Start path at lines lacks

ended_own : (at : Place) → IsOwn (ended_in at) at
ended_own at path lines lacks = none_below Stop path at lines lacks

bare_own : (at : Place) → IsOwn (bare_in at) at
bare_own at path lines lacks = none_bare path at _ lines lacks

lowered_cells : (n : ℕ) (o p q : Option Extent)
    → cells_of (option_map (lower n) o) (option_map (lower n) p) (option_map (lower n) q)
    ≡ option_map (further n) (cells_of o p q)
lowered_cells n (Some e) p q = refl
lowered_cells n None (Some e) q = refl
lowered_cells n None None (Some e) = refl
lowered_cells n None None None = refl

row_between : (at : Place) (before behind : List UnitView) (x : UnitView)
    → list_any (λ y. is_above y.path at) before ≡ false → list_any (λ y. is_above y.path at) behind ≡ false
    → row_of (before ++ x ∷ behind) at ≡ option_map (further (length (lines_of before))) (row_of (x ∷ []) at)
row_between at before behind x e f =
    let n : ℕ = length (lines_of before) in
    let all : List UnitView = before ++ x ∷ behind in
    let one : List UnitView = x ∷ [] in
    ap (λ o. cells_of o (ended_at all at) (bare_at all at))
    (found_between (begun_in at) at (begun_own at) before behind x e f)
    ∙ ap (λ o. cells_of (option_map (lower n) (begun_at one at)) o (bare_at all at))
    (found_between (ended_in at) at (ended_own at) before behind x e f)
    ∙ ap (cells_of (option_map (lower n) (begun_at one at)) (option_map (lower n) (ended_at one at)))
    (found_between (bare_in at) at (bare_own at) before behind x e f)
    ∙ lowered_cells n (begun_at one at) (ended_at one at) (bare_at one at)

pub row_nowhere : (at : Place) (xs : List UnitView) → list_any (λ y. is_above y.path at) xs ≡ false
    → None ≡ row_of xs at
row_nowhere at xs e =
    sym (ap (λ o. cells_of o (ended_at xs at) (bare_at xs at)) (none_found (begun_in at) at (begun_own at) xs e)
    ∙ ap (λ o. cells_of None o (bare_at xs at)) (none_found (ended_in at) at (ended_own at) xs e)
    ∙ ap (cells_of None None) (none_found (bare_in at) at (bare_own at) xs e))

-- ---- among units that are shown

abbrev above : Place → Shown → Bool
above at x = is_above x.path at

pub row_by_unit : (xs : List Shown) (at : Place) (k : ℕ) (x : Shown) → AreAllApart (unit_views xs)
    → position (above at) xs ≡ Some k → k < length xs → x ≡ get_or xs k x
    → row_of (unit_views xs) at
    ≡ option_map (further (length (lines_of (unit_views (take k xs))))) (row_of (unit_view x ∷ []) at)
row_by_unit xs at k x apart found lt is =
    let before : List Shown = take k xs in
    let behind : List Shown = drop (k + 1) xs in
    let parts : drop k xs ≡ x ∷ behind = drop_more xs k x lt ∙ ap (λ y. y ∷ behind) (sym is) in
    let all : xs ≡ before ++ x ∷ behind = sym (take-append-drop k xs) ∙ ap (λ ys. before ++ ys) parts in
    ap (λ us. row_of us at) (ap unit_views all ∙ map-append unit_view before (x ∷ behind))
    ∙ row_between at (unit_views before) (unit_views behind) (unit_view x)
    (none_above_before xs at k apart found) (none_above_behind xs at k apart found)

-- how many rows come before a unit
sums_at : (n : ℕ) (us : List UnitView) (k : ℕ) → k ≤ length us
    → get_or (sums_from n (row_counts us)) k 0 ≡ n + length (lines_of (take k us))
sums_at n [] zero le = omega arith
sums_at n [] (suc k) le = absurd (omega (arith, le))
sums_at n (x ∷ us) zero le = omega arith
sums_at n (x ∷ us) (suc k) le =
    omega (
      arith,
      sums_at (n + length x.lines) us k (omega (arith, le)),
      length-append x.lines (lines_of (take k us)),
    )

pub rows_before : (firsts : List ℕ) (xs : List Shown) (k : ℕ) → firsts ≡ sums_from 0 (row_counts (unit_views xs))
    → k ≤ length xs → get_or firsts k 0 ≡ length (lines_of (unit_views (take k xs)))
rows_before firsts xs k e le =
    let sum : get_or (sums_from 0 (row_counts (unit_views xs))) k 0 ≡ 0 + length (lines_of (take k (unit_views xs))) =
    sums_at 0 (unit_views xs) k (omega (arith, le, length-map xs unit_view)) in
    ap (λ fs. get_or fs k 0) e ∙ omega (arith, sum) ∙ ap (λ us. length (lines_of us)) (take-map unit_view k xs)

-- a row of units is one of all their rows
row_there : (us : List UnitView) (r : ℕ) (p : UnitView × ℕ) → row_in us r ≡ Some p → r < length (lines_of us)
row_there [] r p e = absurd cc
row_there (x ∷ us) r p e =
    pick (nat_lt r (length x.lines)) refl e (row_there us (r - length x.lines) p)
  where
    pick : (b : Bool) → nat_lt r (length x.lines) ≡ b
        → cond b (Some (x, r)) (row_in us (r - length x.lines)) ≡ Some p
        → (row_in us (r - length x.lines) ≡ Some p → r - length x.lines < length (lines_of us))
        → r < length (lines_of (x ∷ us))
    pick true t k more =
        omega (arith, ltb-true r (length x.lines) t, length-append x.lines (lines_of us))
    pick false t k more =
        omega (arith, more k, length-append x.lines (lines_of us))

pub row_within : (us : List UnitView) (at : Place) (p : ℕ × ℕ) → row_of us at ≡ Some p → p.0 < length (lines_of us)
row_within us at p e =
    let unit : IsInUnit us at p.0 = row_in_unit us at p e in
    row_there us p.0 (unit.unit, unit.number) unit.there
