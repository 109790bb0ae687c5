-- What is found on lines and in units: where it is, and that what is on a row is found there or above.
use Rattle.std.proofs.Common.{◌≡◌, ℕ, suc, ◌+◌, ◌-◌, ◌<◌, Bool, true, false, cond, List, [], ◌∷◌, ◌++◌, length}
use Rattle.std.proofs.Common.{Option, Some, None, refl, ap, ◌∙◌, subst, arith, lt-ltb, le-ltb}
use Rattle.std.specs.Prelude.{slice_get, option_and_then, ◌==◌}
use Rattle.std.specs.Option.{option_map, option_map_or, option_or}
use Rattle.std.specs.Str.{bytes_eq}
use Rattle.std.proofs.lemmas.Bool.{and_parts, and_from}
use Rattle.std.proofs.lemmas.Bool.Decides.{Decides-eqb}
use Rattle.std.proofs.lemmas.Option.{same_Some, option_and_then_some}
use Rattle.std.proofs.lemmas.List.Sums.{sum_by-cons}
use Rattle.std.proofs.lemmas.Slice.Eq.{bytes_eq-Decides}
use Rattle.tx_tree.specs.SamePlaces.{same_place}
use Rattle.tx_tree.specs.declared.places.Place.{Place}
use Rattle.tx_items.specs.declared.drawing.Item.{Item}
use Rattle.tx_items.specs.Cells.{item_cells, cells_across}
use Rattle.tx_layout.specs.declared.layout.Line.{Line}
use Rattle.tx_view_form.specs.Views.{UnitView}
use Rattle.tx_view_form.specs.Cells.{row_in}
use Rattle.tx_view_form.specs.Positions.{Mark, mark_of}
use Rattle.tx_moves.specs.Rows.{has_place, Extent, lower, extent_on, extent_in, first_in}

-- ---- places that are the same

pub same_is : (p q : Place) → same_place p q ≡ true → p ≡ q
same_is p q e =
    let parts = and_parts (bytes_eq p.path q.path) (p.offset == q.offset) e in
    let paths : p.path ≡ q.path = (bytes_eq-Decides p.path q.path).0 parts.0 in
    let offsets : p.offset ≡ q.offset = (Decides-eqb p.offset q.offset).0 parts.1 in
    λ i. record { path = paths i; offset = offsets i }

pub same_self : (p : Place) → same_place p p ≡ true
same_self p =
    and_from (bytes_eq p.path p.path) (p.offset == p.offset) ((bytes_eq-Decides p.path p.path).1 refl)
    ((Decides-eqb p.offset p.offset).1 refl)

-- ---- an item with a place

pub record IsMarked (place : Mark → Place) (at : Place) (item : Item) : Type 0 where
  pub mark : Mark
  pub has : mark_of item ≡ Some mark
  pub is : at ≡ place mark

pub marked : (place : Mark → Place) (at : Place) (item : Item) → has_place place at item ≡ true
    → IsMarked place at item
marked place at item = by (mark_of item) refl
  where
    by : (o : Option Mark) → mark_of item ≡ o → option_map_or (λ m. same_place at (place m)) o false ≡ true
        → IsMarked place at item
    by None e h = absurd cc
    by (Some m) e h = record { mark = m; has = e; is = same_is at (place m) h }

-- ---- what was found

-- the item that was found on a line, whose items begin at a column
pub record IsFound (test : Item → Bool) (from : ℕ) (items : List Item) (e : Extent) : Type 0 where
  pub front : List Item
  pub item : Item
  pub back : List Item
  pub are : items ≡ front ++ item ∷ back
  pub passes : test item ≡ true
  pub row : e.row ≡ 0
  pub begins : e.from ≡ from + cells_across front
  pub ends : e.to ≡ e.from + item_cells item

pub found_on : (test : Item → Bool) (from : ℕ) (items : List Item) (e : Extent) → extent_on test from items ≡ Some e
    → IsFound test from items e
found_on test from [] e h = absurd cc
found_on test from (x ∷ xs) e h = pick (test x) refl h (found_on test (from + item_cells x) xs e)
  where
    pick : (b : Bool) → test x ≡ b
        → cond b (Some (record { row = 0; from = from; to = from + item_cells x }))
        (extent_on test (from + item_cells x) xs) ≡ Some e
        → (extent_on test (from + item_cells x) xs ≡ Some e → IsFound test (from + item_cells x) xs e)
        → IsFound test from (x ∷ xs) e
    pick true t k more =
        let d : Extent = record { row = 0; from = from; to = from + item_cells x } in
        let same : d ≡ e = same_Some d e k in
        subst (IsFound test from (x ∷ xs)) same
        (record {
          front = [];
          item = x;
          back = xs;
          are = refl;
          passes = t;
          row = refl;
          begins = omega arith;
          ends = refl;
        })
    pick false t k more =
        let rest : IsFound test (from + item_cells x) xs e = more k in
        let sums = sum_by-cons item_cells x rest.front in
        let begins = rest.begins in
        record {
          front = x ∷ rest.front;
          item = rest.item;
          back = rest.back;
          are = ap (λ l. x ∷ l) rest.are;
          passes = rest.passes;
          row = rest.row;
          begins = omega arith;
          ends = rest.ends;
        }

-- the line and the item that were found
pub record IsFoundIn (test : Item → Bool) (lines : List Line) (e : Extent) : Type 0 where
  pub line : Line
  pub there : slice_get lines e.row ≡ Some line
  pub front : List Item
  pub item : Item
  pub back : List Item
  pub are : line.items ≡ front ++ item ∷ back
  pub passes : test item ≡ true
  pub begins : e.from ≡ line.indent + cells_across front
  pub ends : e.to ≡ e.from + item_cells item

pub found_in : (test : Item → Bool) (lines : List Line) (e : Extent) → extent_in test lines ≡ Some e
    → IsFoundIn test lines e
found_in test [] e h = absurd cc
found_in test (line ∷ lines) e h = by (extent_on test line.indent line.items) refl h (found_in test lines)
  where
    behind : (o : Option Extent) → extent_in test lines ≡ o → option_map (lower 1) o ≡ Some e
        → ((d : Extent) → extent_in test lines ≡ Some d → IsFoundIn test lines d) → IsFoundIn test (line ∷ lines) e
    behind None q k more = absurd cc
    behind (Some d) q k more =
        let same : lower 1 d ≡ e = same_Some (lower 1 d) e k in
        let rest : IsFoundIn test lines d = more d q in
        let number : 1 + d.row ≡ suc d.row = omega arith in
        subst (IsFoundIn test (line ∷ lines)) same
        (record {
          line = rest.line;
          there = ap (slice_get (line ∷ lines)) number ∙ rest.there;
          front = rest.front;
          item = rest.item;
          back = rest.back;
          are = rest.are;
          passes = rest.passes;
          begins = rest.begins;
          ends = rest.ends;
        })

    by : (o : Option Extent) → extent_on test line.indent line.items ≡ o
        → option_or o (option_map (lower 1) (extent_in test lines)) ≡ Some e
        → ((d : Extent) → extent_in test lines ≡ Some d → IsFoundIn test lines d) → IsFoundIn test (line ∷ lines) e
    by None q k more = behind (extent_in test lines) refl k more
    by (Some d) q k more =
        let same : d ≡ e = same_Some d e k in
        let own : IsFound test line.indent line.items d = found_on test line.indent line.items d q in
        subst (IsFoundIn test (line ∷ lines)) same
        (record {
          line = line;
          there = ap (slice_get (line ∷ lines)) own.row;
          front = own.front;
          item = own.item;
          back = own.back;
          are = own.are;
          passes = own.passes;
          begins = own.begins;
          ends = own.ends;
        })

-- what is found in lines is on one of them
abbrev pub IsOnLines : (List ℕ → List Line → Option Extent) → Type 0
IsOnLines find = (path : List ℕ) (lines : List Line) (e : Extent) → find path lines ≡ Some e → e.row < length lines

-- the unit in which it was found, and where there
pub record IsFoundAt (find : List ℕ → List Line → Option Extent) (xs : List UnitView) (e : Extent) : Type 0 where
  pub unit : UnitView
  pub path : List ℕ
  pub inner : Extent
  pub there : row_in xs e.row ≡ Some (unit, inner.row)
  pub has_path : unit.path ≡ Some path
  pub found : find path unit.lines ≡ Some inner
  pub from : e.from ≡ inner.from
  pub to : e.to ≡ inner.to

pub found_at : (find : List ℕ → List Line → Option Extent) → IsOnLines find → (xs : List UnitView) (e : Extent)
    → first_in find xs ≡ Some e → IsFoundAt find xs e
found_at find low [] e h = absurd cc
found_at find low (x ∷ xs) e h =
    by (option_and_then (λ path. find path x.lines) x.path) refl h (found_at find low xs)
  where
    behind : (o : Option Extent) → first_in find xs ≡ o → option_map (lower (length x.lines)) o ≡ Some e
        → ((d : Extent) → first_in find xs ≡ Some d → IsFoundAt find xs d) → IsFoundAt find (x ∷ xs) e
    behind None q k more = absurd cc
    behind (Some d) q k more =
        let n : ℕ = length x.lines in
        let same : lower n d ≡ e = same_Some (lower n d) e k in
        let rest : IsFoundAt find xs d = more d q in
        let number : (n + d.row) - n ≡ d.row = omega arith in
        subst (IsFoundAt find (x ∷ xs)) same
        (record {
          unit = rest.unit;
          path = rest.path;
          inner = rest.inner;
          there =
              ap (λ b. cond b (Some (x, n + d.row)) (row_in xs ((n + d.row) - n))) (le-ltb (n + d.row) n (omega arith))
              ∙ ap (row_in xs) number ∙ rest.there;
          has_path = rest.has_path;
          found = rest.found;
          from = rest.from;
          to = rest.to;
        })

    by : (o : Option Extent) → option_and_then (λ path. find path x.lines) x.path ≡ o
        → option_or o (option_map (lower (length x.lines)) (first_in find xs)) ≡ Some e
        → ((d : Extent) → first_in find xs ≡ Some d → IsFoundAt find xs d) → IsFoundAt find (x ∷ xs) e
    by None q k more = behind (first_in find xs) refl k more
    by (Some d) q k more =
        let same : d ≡ e = same_Some d e k in
        subst (IsFoundAt find (x ∷ xs)) same
        (option_and_then_some {P = IsFoundAt find (x ∷ xs) d} (λ path. find path x.lines) x.path d q
        (λ path has is. record {
          unit = x;
          path = path;
          inner = d;
          there =
              ap (λ b. cond b (Some (x, d.row)) (row_in xs (d.row - length x.lines)))
              (lt-ltb d.row (length x.lines) (low path x.lines d is));
          has_path = has;
          found = is;
          from = refl;
          to = refl;
        }))
