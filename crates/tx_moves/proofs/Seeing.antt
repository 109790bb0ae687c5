-- What is on a row is found there or above.
use Rattle.std.proofs.Common.{◌≡◌, ℕ, zero, suc, ◌+◌, ◌-◌, ◌<◌, ◌≤◌, Bool, true, false, cond, List, [], ◌∷◌, ◌++◌}
use Rattle.std.proofs.Common.{length, Option, Some, None, refl, sym, ap, ◌∙◌, subst, arith, le-ltb, ltb-false, inl, inr}
use Rattle.std.proofs.Common.{take, drop, take-append-drop, append-nil, ⊎_elim}
use Rattle.std.specs.Prelude.{slice_get, option_and_then, nat_lt, ◌⊎◌}
use Rattle.std.specs.List.{cons_option}
use Rattle.std.specs.Option.{option_map, option_map_or, option_or}
use Rattle.std.proofs.lemmas.Option.{same_Some, some_pair_parts, option_and_then_some}
use Rattle.std.proofs.lemmas.List.Elements.{filter_map-append}
use Rattle.tx_tree.specs.SamePlaces.{same_place}
use Rattle.tx_tree.specs.declared.places.Place.{Place}
use Rattle.tx_items.specs.declared.drawing.Item.{Item}
use Rattle.tx_items.specs.Cells.{item_cells}
use Rattle.tx_layout.specs.declared.layout.Line.{Line}
use Rattle.tx_view_form.specs.Views.{UnitView}
use Rattle.tx_view_form.specs.Cells.{row_in, item_number, item_at}
use Rattle.tx_view_form.specs.Positions.{Mark, mark_of, marks_of, nearest, place_by}
use Rattle.tx_moves.specs.Rows.{has_place, Extent, lower, extent_on, extent_in, first_in, whole_place, start_place}
use Rattle.tx_moves.specs.Rows.{stop_place, begun_in, begun_at, ended_in, ended_at, bare_at, row_of}
use Rattle.tx_moves.specs.RowStops.{place_alone, is_past, last_start, stop_alone, stop_by, stop_in, stop_on, IsRowOf}
use Rattle.tx_moves.specs.RowStops.{IsDrawnUpTo}
use Rattle.tx_moves.proofs.Finding.{same_self, found_on, IsOnLines}
use Rattle.tx_moves.proofs.Covering.{in_lines, mark_covers}

-- ---- a place of one of some marks

abbrev pub Among : (Mark → Place) → List Mark → Place → Type 0
Among place [] at = ⊥
Among place (m ∷ ms) at = (place m ≡ at) ⊎ Among place ms at

pub among_front : (place : Mark → Place) (xs ys : List Mark) (at : Place) → Among place xs at
    → Among place (xs ++ ys) at
among_front place [] ys at h = absurd h
among_front place (x ∷ xs) ys at (inl h) = inl h
among_front place (x ∷ xs) ys at (inr h) = inr (among_front place xs ys at h)

pub among_more : (place : Mark → Place) (o : Option Mark) (ms : List Mark) (at : Place) → Among place ms at
    → Among place (cons_option o ms) at
among_more place None ms at h = h
among_more place (Some m) ms at h = inr h

pub among_item : (place : Mark → Place) (items : List Item) (k : ℕ) (item : Item) (m : Mark)
    → slice_get items k ≡ Some item → mark_of item ≡ Some m → Among place (marks_of items) (place m)
among_item place [] k item m e has = absurd cc
among_item place (x ∷ xs) zero item m e has =
    let same : x ≡ item = same_Some x item e in
    let own : mark_of x ≡ Some m = ap mark_of same ∙ has in
    let first : Among place (cons_option (Some m) (marks_of xs)) (place m) = inl refl in
    subst (λ o. Among place (cons_option o (marks_of xs)) (place m)) (sym own) first
among_item place (x ∷ xs) (suc k) item m e has =
    among_more place (mark_of x) (marks_of xs) (place m) (among_item place xs k item m e has)

pub stop_some : (place : Mark → Place) (ms : List Mark) (at : Place) → Among place ms at → (p : Place)
    → stop_by ms p ≡ Some p
stop_some place [] at h p = absurd h
stop_some place (m ∷ ms) at h p = refl

-- ---- what is found up to a row

pub record IsSeen (o : Option Extent) (n : ℕ) : Type 0 where
  pub extent : Extent
  pub is : o ≡ Some extent
  pub up_to : extent.row ≤ n

seen_on : (place : Mark → Place) (at : Place) (items : List Item) (from : ℕ) → Among place (marks_of items) at
    → IsSeen (extent_on (has_place place at) from items) 0
seen_on place at [] from h = absurd h
seen_on place at (x ∷ xs) from h = by (mark_of x) refl h (seen_on place at xs (from + item_cells x))
  where
    pick : (b : Bool) → has_place place at x ≡ b
        → (has_place place at x ≡ false → IsSeen (extent_on (has_place place at) (from + item_cells x) xs) 0)
        → IsSeen (extent_on (has_place place at) from (x ∷ xs)) 0
    pick true t more =
        let d : Extent = record { row = 0; from = from; to = from + item_cells x } in
        record {
          extent = d;
          is = ap (λ b. cond b (Some d) (extent_on (has_place place at) (from + item_cells x) xs)) t;
          up_to = omega arith;
        }
    pick false t more =
        let d : Extent = record { row = 0; from = from; to = from + item_cells x } in
        let rest = more t in
        record {
          extent = rest.extent;
          is = ap (λ b. cond b (Some d) (extent_on (has_place place at) (from + item_cells x) xs)) t ∙ rest.is;
          up_to = rest.up_to;
        }

    by : (o : Option Mark) → mark_of x ≡ o → Among place (cons_option o (marks_of xs)) at
        → (Among place (marks_of xs) at → IsSeen (extent_on (has_place place at) (from + item_cells x) xs) 0)
        → IsSeen (extent_on (has_place place at) from (x ∷ xs)) 0
    by None e h more = pick (has_place place at x) refl (λ none. more h)
    by (Some m) e (inl same) more =
        let here : has_place place at x ≡ true =
        ap (λ o. option_map_or (λ n. same_place at (place n)) o false) e ∙ ap (same_place at) same ∙ same_self at in
        pick (has_place place at x) refl
        (λ none. let both : true ≡ false = sym here ∙ none in absurd cc)
    by (Some m) e (inr h) more = pick (has_place place at x) refl (λ none. more h)

seen_in : (test : Item → Bool) (lines : List Line) (i : ℕ) (line : Line) → slice_get lines i ≡ Some line
    → IsSeen (extent_on test line.indent line.items) 0 → IsSeen (extent_in test lines) i
seen_in test [] i line e h = absurd cc
seen_in test (x ∷ xs) zero line e h =
    let same : line ≡ x = sym (same_Some x line e) in
    let own = subst (λ l. IsSeen (extent_on test l.indent l.items) 0) same h in
    record {
      extent = own.extent;
      is = ap (λ o. option_or o (option_map (lower 1) (extent_in test xs))) own.is;
      up_to = own.up_to;
    }
seen_in test (x ∷ xs) (suc i) line e h =
    by (extent_on test x.indent x.items) refl (seen_in test xs i line e h)
  where
    by : (o : Option Extent) → extent_on test x.indent x.items ≡ o → IsSeen (extent_in test xs) i
        → IsSeen (extent_in test (x ∷ xs)) (suc i)
    by None q rest =
        let up = rest.up_to in
        record {
          extent = lower 1 rest.extent;
          is =
              ap (λ o. option_or o (option_map (lower 1) (extent_in test xs))) q
              ∙ ap (λ o. option_map (lower 1) o) rest.is;
          up_to = omega arith;
        }
    by (Some d) q rest =
        let row = (found_on test x.indent x.items d q).row in
        record {
          extent = d;
          is = ap (λ o. option_or o (option_map (lower 1) (extent_in test xs))) q;
          up_to = omega arith;
        }

seen_at : (find : List ℕ → List Line → Option Extent) → IsOnLines find → (xs : List UnitView) (r i : ℕ) (x : UnitView)
    (path : List ℕ) → row_in xs r ≡ Some (x, i) → x.path ≡ Some path → IsSeen (find path x.lines) i
    → IsSeen (first_in find xs) r
seen_at find low [] r i x path e has h = absurd cc
seen_at find low (y ∷ ys) r i x path e has h =
    pick (nat_lt r (length y.lines)) refl e (λ k. seen_at find low ys (r - length y.lines) i x path k has h)
  where
    after : (o : Option Extent) → option_and_then (λ q. find q y.lines) y.path ≡ o → length y.lines ≤ r
        → IsSeen (first_in find ys) (r - length y.lines) → IsSeen (first_in find (y ∷ ys)) r
    after None q high rest =
        let up = rest.up_to in
        record {
          extent = lower (length y.lines) rest.extent;
          is =
              ap (λ o. option_or o (option_map (lower (length y.lines)) (first_in find ys))) q
              ∙ ap (λ o. option_map (lower (length y.lines)) o) rest.is;
          up_to = omega arith;
        }
    after (Some d) q high rest =
        let inside : d.row < length y.lines =
        option_and_then_some {P = d.row < length y.lines} (λ p. find p y.lines) y.path d q
        (λ p own is. low p y.lines d is) in
        record {
          extent = d;
          is = ap (λ o. option_or o (option_map (lower (length y.lines)) (first_in find ys))) q;
          up_to = omega arith;
        }

    pick : (b : Bool) → nat_lt r (length y.lines) ≡ b
        → cond b (Some (y, r)) (row_in ys (r - length y.lines)) ≡ Some (x, i)
        → (row_in ys (r - length y.lines) ≡ Some (x, i) → IsSeen (first_in find ys) (r - length y.lines))
        → IsSeen (first_in find (y ∷ ys)) r
    pick true t k more =
        let parts = some_pair_parts y x r i k in
        let number : i ≡ r = sym parts.1 in
        let up = h.up_to in
        let own : option_and_then (λ q. find q y.lines) y.path ≡ Some h.extent =
        ap (λ u. option_and_then (λ q. find q u.lines) u.path) parts.0
        ∙ ap (λ o. option_and_then (λ q. find q x.lines) o) has ∙ h.is in
        record {
          extent = h.extent;
          is = ap (λ o. option_or o (option_map (lower (length y.lines)) (first_in find ys))) own;
          up_to = omega arith;
        }
    pick false t k more =
        after (option_and_then (λ q. find q y.lines) y.path) refl (ltb-false r (length y.lines) t) (more k)

-- ---- the places on a row

abbrev ways : Option Extent → Option Extent → Option Extent → Option (ℕ × ℕ)
ways o p q =
    option_or (option_map (λ e. (e.row, e.from)) o)
    (option_or (option_map (λ e. (e.row, e.to)) p) (option_map (λ e. (e.row, e.from)) q))

-- a place has a row
record HasRow (xs : List UnitView) (at : Place) : Type 0 where
  found : ℕ × ℕ
  is : row_of xs at ≡ Some found

-- the place at a column of a row alone is the end of a cluster, and one is before the column
pub record IsAfter (path : List ℕ) (line : Line) (goal : ℕ) : Type 0 where
  pub ends : Among (stop_place path) (marks_of line.items) (place_alone path line goal)
  first : Mark
  others : List Mark
  before : marks_of (take (item_number line goal) line.items) ≡ first ∷ others

pub last_among : (path : List ℕ) (other : Place) (m : Mark) (ms : List Mark)
    → Among (start_place path) (m ∷ ms) (last_start path other (m ∷ ms))
last_among path other m [] = inl refl
last_among path other m (k ∷ ks) = inr (last_among path (start_place path m) k ks)

abbrev IsNear : List ℕ → List Mark → List Mark → Type 0
IsNear path before after =
    Among (start_place path) (before ++ after) (whole_place (nearest path before after))
    ⊎ (Among (stop_place path) (before ++ after) (whole_place (nearest path before after))
    × ((m : Mark) × (ms : List Mark) × (before ≡ m ∷ ms)))

near : (path : List ℕ) (before after : List Mark) (n : Mark) (ns : List Mark) → before ++ after ≡ n ∷ ns
    → IsNear path before after
near path [] [] n ns e = absurd cc
near path [] (m ∷ ms) n ns e = inl (inl refl)
near path (m ∷ []) after n ns e = inr (inl refl, (m, [], refl))
near path (m ∷ (k ∷ ks)) after n ns e =
    ⊎_elim (λ a. inl (inr a)) (λ b. inr (inr b.0, (m, k ∷ ks, refl))) (near path (k ∷ ks) after k (ks ++ after) refl)

pub parts_of : (line : Line) (n : ℕ)
    → marks_of (take n line.items) ++ marks_of (drop n line.items) ≡ marks_of line.items
parts_of line n =
    sym (filter_map-append mark_of (take n line.items) (drop n line.items))
    ∙ ap marks_of (take-append-drop n line.items)

pub placed : (path : List ℕ) (line : Line) (goal : ℕ) (n : Mark) (ns : List Mark) → marks_of line.items ≡ n ∷ ns
    → Among (start_place path) (marks_of line.items) (place_alone path line goal) ⊎ IsAfter path line goal
placed path line goal n ns some = by (option_and_then mark_of (item_at line goal)) refl
  where
    covered : (o : Option Item) → item_at line goal ≡ o → (m : Mark) → option_and_then mark_of o ≡ Some m
        → Among (start_place path) (marks_of line.items) (start_place path m)
    covered None q m e = absurd cc
    covered (Some item) q m e = inside (nat_lt goal line.indent) q
      where
        inside : (b : Bool) → cond b None (slice_get line.items (item_number line goal)) ≡ Some item
            → Among (start_place path) (marks_of line.items) (start_place path m)
        inside true k = absurd cc
        inside false k = among_item (start_place path) line.items (item_number line goal) item m k e

    by : (o : Option Mark) → option_and_then mark_of (item_at line goal) ≡ o
        → Among (start_place path) (marks_of line.items) (place_alone path line goal) ⊎ IsAfter path line goal
    by (Some m) e =
        let n : ℕ = item_number line goal in
        let at : start_place path m ≡ place_alone path line goal =
        sym (ap
        (λ o.
        whole_place (place_by o path (marks_of (take n line.items)) (marks_of (drop n line.items ++ [])))) e) in
        inl (subst (Among (start_place path) (marks_of line.items)) at (covered (item_at line goal) refl m e))
    by None e =
        let n : ℕ = item_number line goal in
        let before : List Mark = marks_of (take n line.items) in
        let after : List Mark = marks_of (drop n line.items) in
        let at : whole_place (nearest path before after) ≡ place_alone path line goal =
        sym (ap (λ o. whole_place (place_by o path before (marks_of (drop n line.items ++ [])))) e
        ∙ ap (λ l. whole_place (nearest path before (marks_of l))) (append-nil (drop n line.items))) in
        ⊎_elim
        (λ a. inl (subst (Among (start_place path) (marks_of line.items)) at
        (subst (λ l. Among (start_place path) l (whole_place (nearest path before after))) (parts_of line n) a)))
        (λ b. inr (record {
          ends =
              subst (Among (stop_place path) (marks_of line.items)) at
              (subst (λ l. Among (stop_place path) l (whole_place (nearest path before after))) (parts_of line n) b.0);
          first = b.1.0;
          others = b.1.1;
          before = b.1.2;
        }))
        (near path before after _ _ (parts_of line n ∙ some))

module _ (xs : List UnitView) (r : ℕ) (path : List ℕ) (line : Line) (row : IsRowOf xs r path line) where
  pub starts_drawn : (at : Place) → Among (start_place path) (marks_of line.items) at → IsDrawnUpTo xs at r
  starts_drawn at h =
      let on_lines : IsOnLines (begun_in at) = λ p lines. in_lines (has_place (start_place p) at) lines in
      let seen : IsSeen (begun_at xs at) r =
      seen_at (begun_in at) on_lines xs r row.number row.unit path row.there row.has_path
      (seen_in (has_place (start_place path) at) row.unit.lines row.number line row.is
      (seen_on (start_place path) at line.items line.indent h)) in
      record {
        row = seen.extent.row;
        column = seen.extent.from;
        drawn = ap (λ o. ways o (ended_at xs at) (bare_at xs at)) seen.is;
        up_to = seen.up_to;
      }

  -- the end of a cluster is drawn somewhere
  stops_drawn : (at : Place) → Among (stop_place path) (marks_of line.items) at → HasRow xs at
  stops_drawn at h =
      let on_lines : IsOnLines (ended_in at) = λ p lines. in_lines (has_place (stop_place p) at) lines in
      let seen : IsSeen (ended_at xs at) r =
      seen_at (ended_in at) on_lines xs r row.number row.unit path row.there row.has_path
      (seen_in (has_place (stop_place path) at) row.unit.lines row.number line row.is
      (seen_on (stop_place path) at line.items line.indent h)) in
      by seen (begun_at xs at) refl
    where
      by : IsSeen (ended_at xs at) r → (o : Option Extent) → begun_at xs at ≡ o → HasRow xs at
      by seen (Some d) e =
          record { found = (d.row, d.from); is = ap (λ o. ways o (ended_at xs at) (bare_at xs at)) e }
      by seen None e =
          record {
            found = (seen.extent.row, seen.extent.to);
            is =
                ap (λ o. ways o (ended_at xs at) (bare_at xs at)) e
                ∙ ap (λ o. ways None o (bare_at xs at)) seen.is;
          }

  -- the place that stop_on takes is drawn on the row or above
  alone_drawn : (goal : ℕ) (n : Mark) (ns : List Mark) → marks_of line.items ≡ n ∷ ns
      → IsDrawnUpTo xs (stop_alone xs r path line goal) r
  alone_drawn goal n ns some = ⊎_elim at_start at_end (placed path line goal n ns some)
    where
      at_start : Among (start_place path) (marks_of line.items) (place_alone path line goal)
          → IsDrawnUpTo xs (stop_alone xs r path line goal) r
      at_start h = starts_kept (starts_drawn (place_alone path line goal) h)
        where
          starts_kept : IsDrawnUpTo xs (place_alone path line goal) r
              → IsDrawnUpTo xs (stop_alone xs r path line goal) r
          starts_kept d =
              let near_row : is_past r (row_of xs (place_alone path line goal)) ≡ false =
              ap (is_past r) d.drawn ∙ le-ltb r d.row d.up_to in
              subst (λ b. IsDrawnUpTo xs (cond b (last_start path (place_alone path line goal)
              (marks_of (take (item_number line goal) line.items))) (place_alone path line goal)) r) (sym near_row) d

      at_end : IsAfter path line goal → IsDrawnUpTo xs (stop_alone xs r path line goal) r
      at_end h = by (is_past r (row_of xs (place_alone path line goal))) refl
        where
          by : (b : Bool) → is_past r (row_of xs (place_alone path line goal)) ≡ b
              → IsDrawnUpTo xs (cond b (last_start path (place_alone path line goal)
              (marks_of (take (item_number line goal) line.items))) (place_alone path line goal)) r
          by true q =
              let first : Among (start_place path) (marks_of (take (item_number line goal) line.items))
              (last_start path (place_alone path line goal) (marks_of (take (item_number line goal) line.items))) =
              subst (λ l. Among (start_place path) l (last_start path (place_alone path line goal) l)) (sym h.before)
              (last_among path (place_alone path line goal) h.first h.others) in
              starts_drawn
              (last_start path (place_alone path line goal) (marks_of (take (item_number line goal) line.items)))
              (subst (λ l. Among (start_place path) l (last_start path (place_alone path line goal)
              (marks_of (take (item_number line goal) line.items)))) (parts_of line (item_number line goal))
              (among_front (start_place path) (marks_of (take (item_number line goal) line.items))
              (marks_of (drop (item_number line goal) line.items))
              (last_start path (place_alone path line goal) (marks_of (take (item_number line goal) line.items)))
              first))
          by false q =
              let has : HasRow xs (place_alone path line goal) = stops_drawn (place_alone path line goal) h.ends in
              let near_row : nat_lt r has.found.0 ≡ false = sym (ap (is_past r) has.is) ∙ q in
              record {
                row = has.found.0;
                column = has.found.1;
                drawn = has.is;
                up_to = ltb-false r has.found.0 near_row;
              }

  pub stop_is : (goal : ℕ) → stop_on xs r goal ≡ stop_by (marks_of line.items) (stop_alone xs r path line goal)
  stop_is goal =
      ap (λ o. option_and_then (λ p. stop_in xs r p.0 p.1 goal) o) row.there
      ∙ ap
      (λ o.
      option_and_then
      (λ q.
      option_and_then (λ l. stop_by (marks_of l.items) (stop_alone xs r q l goal))
      (slice_get row.unit.lines row.number))
      o)
      row.has_path
      ∙ ap (λ o. option_and_then (λ l. stop_by (marks_of l.items) (stop_alone xs r path l goal)) o) row.is

  pub row_stop : (goal : ℕ) (at : Place) → stop_on xs r goal ≡ Some at → IsDrawnUpTo xs at r
  row_stop goal at h = by (marks_of line.items) refl (sym (stop_is goal) ∙ h)
    where
      by : (ms : List Mark) → marks_of line.items ≡ ms → stop_by ms (stop_alone xs r path line goal) ≡ Some at
          → IsDrawnUpTo xs at r
      by [] q k = absurd cc
      by (n ∷ ns) q k =
          let same : stop_alone xs r path line goal ≡ at = same_Some (stop_alone xs r path line goal) at k in
          subst (λ p. IsDrawnUpTo xs p r) same (alone_drawn goal n ns q)

  pub covered_stop : (goal : ℕ) (item : Item) (m : Mark) → item_at line goal ≡ Some item → mark_of item ≡ Some m
      → stop_on xs r goal ≡ Some (start_place path m)
  covered_stop goal item m e has = by (item_in (nat_lt goal line.indent) e)
    where
      item_in : (b : Bool) → cond b None (slice_get line.items (item_number line goal)) ≡ Some item
          → slice_get line.items (item_number line goal) ≡ Some item
      item_in true k = absurd cc
      item_in false k = k

      by : slice_get line.items (item_number line goal) ≡ Some item → stop_on xs r goal ≡ Some (start_place path m)
      by k =
          let among : Among (start_place path) (marks_of line.items) (start_place path m) =
          among_item (start_place path) line.items (item_number line goal) item m k has in
          let drawn : IsDrawnUpTo xs (start_place path m) r = starts_drawn (start_place path m) among in
          let at : place_alone path line goal ≡ start_place path m =
          ap whole_place (mark_covers path [] [] line goal item m e has) in
          let near_row : is_past r (row_of xs (place_alone path line goal)) ≡ false =
          ap (λ p. is_past r (row_of xs p)) at ∙ ap (is_past r) drawn.drawn ∙ le-ltb r drawn.row drawn.up_to in
          stop_is goal
          ∙ stop_some (start_place path) (marks_of line.items) (start_place path m) among
          (stop_alone xs r path line goal)
          ∙ ap (λ b. Some (cond b (last_start path (place_alone path line goal)
          (marks_of (take (item_number line goal) line.items))) (place_alone path line goal))) near_row
          ∙ ap Some at

  pub no_stop : (goal : ℕ) → marks_of line.items ≡ [] → stop_on xs r goal ≡ None
  no_stop goal none = stop_is goal ∙ ap (λ ms. stop_by ms (stop_alone xs r path line goal)) none

-- where there is a stop, the row is a line of a unit that has a path
pub stop_row : (xs : List UnitView) (r goal : ℕ) (at : Place) → stop_on xs r goal ≡ Some at → IsDrawnUpTo xs at r
stop_row xs r goal at h =
    option_and_then_some {P = IsDrawnUpTo xs at r} (λ p. stop_in xs r p.0 p.1 goal) (row_in xs r) at h
    (λ p there in_unit.
    option_and_then_some {P = IsDrawnUpTo xs at r}
    (λ path.
    option_and_then (λ line. stop_by (marks_of line.items) (stop_alone xs r path line goal)) (slice_get p.0.lines p.1))
    p.0.path at in_unit
    (λ path has on_path.
    option_and_then_some {P = IsDrawnUpTo xs at r}
    (λ line. stop_by (marks_of line.items) (stop_alone xs r path line goal)) (slice_get p.0.lines p.1) at on_path
    (λ line is stop.
    row_stop xs r path line
    (record { unit = p.0; number = p.1; there = there; has_path = has; is = is }) goal at h)))
