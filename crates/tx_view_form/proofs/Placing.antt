-- Positions and stops are places of the document.
use Rattle.std.proofs.Common.{◌≡◌, ℕ, ◌+◌, ◌-◌, Bool, true, false, cond, List, [], ◌∷◌, ◌++◌, length, take, drop}
use Rattle.std.proofs.Common.{Option, Some, None, refl, subst}
use Rattle.std.specs.Prelude.{All, slice_get, option_and_then, nat_lt}
use Rattle.std.specs.List.{AllByRecursion, flat_map, cons_option, list_any, fold}
use Rattle.std.specs.Option.{option_map, option_map_or}
use Rattle.std.proofs.lemmas.List.Elements.{All-nil, All-append, All-head, All-tail, All-take, All-drop}
use Rattle.std.proofs.lemmas.Option.{slice_get_within, get_or_from_slice_get}
use Rattle.tx_tree.specs.WideTree.{WideTree}
use Rattle.tx_tree.specs.Places.{IsPlace}
use Rattle.tx_tree.specs.declared.places.Place.{Place}
use Rattle.tx_origin.specs.RelativePlaces.{BasedPlace}
use Rattle.tx_items.specs.declared.drawing.Item.{Item}
use Rattle.tx_layout.specs.declared.layout.Line.{Line}
use Rattle.tx_view_form.specs.Views.{UnitView}
use Rattle.tx_view_form.specs.Cells.{row_in, item_number, item_at}
use Rattle.tx_view_form.specs.Positions.{Mark, mark_of, marks_of, first_or, nearest, items_on}
use Rattle.tx_view_form.specs.Positions.{place_by, place_on, place_in, position_in, whole_path}
use Rattle.tx_view_form.specs.Stops.{mark_place, stops_by, unit_stops, put_place, stops_of}
use Rattle.tx_tree.specs.SamePlaces.{same_place}
use Rattle.tx_view_form.proofs.Marking.{some_once, OnMark}
use Rattle.tx_view_form.proofs.PathUnits.{all_both}
use Rattle.tx_view_form.proofs.Located.{IsLocated, HasPlaces, ArePlaces}

-- ---- marks of items

put_mark : (Q : Mark → Type 0) (o : Option Mark) (ms : List Mark) → ((m : Mark) → o ≡ Some m → Q m)
    → AllByRecursion Q ms → AllByRecursion Q (cons_option o ms)
put_mark Q None ms g h = h
put_mark Q (Some m) ms g h = (g m refl, h)

all_marks : (Q : Mark → Type 0) (items : List Item) → All (OnMark Q) items → AllByRecursion Q (marks_of items)
all_marks Q [] h = tt
all_marks Q (x ∷ xs) h =
    put_mark Q (mark_of x) (marks_of xs) (All-head (OnMark Q) x xs h)
    (all_marks Q xs (All-tail (OnMark Q) x xs h))

all_among : {X : Type 0} (P : Item → Type 0) (f : X → List Item) (xs : List X) → All (λ x. All P (f x)) xs
    → All P (flat_map f xs)
all_among P f [] h = All-nil P
all_among P f (x ∷ xs) h =
    All-append P (f x) (flat_map f xs) (All-head (λ y. All P (f y)) x xs h)
    (all_among P f xs (All-tail (λ y. All P (f y)) x xs h))

one_mark : (Q : Mark → Type 0) (items : List Item) (k : ℕ) → All (OnMark Q) items → (m : Mark)
    → option_and_then mark_of (slice_get items k) ≡ Some m → Q m
one_mark Q items k all m = by (slice_get items k) refl
  where
    by : (o : Option Item) → slice_get items k ≡ o → option_and_then mark_of o ≡ Some m → Q m
    by None e f = absurd cc
    by (Some item) e f =
        let there : OnMark Q item =
        subst (OnMark Q) (get_or_from_slice_get items k item item e) (all k item (slice_get_within items k item e)) in
        there m f

-- the item that covers a column of a line
mark_here : (Q : Mark → Type 0) (line : Line) (c : ℕ) → All (OnMark Q) line.items → (m : Mark)
    → option_and_then mark_of (item_at line c) ≡ Some m → Q m
mark_here Q line c all m e =
    pick (nat_lt c line.indent) e (λ f. one_mark Q line.items (item_number line c) all m f)
  where
    pick : (b : Bool) → option_and_then mark_of (cond b None (slice_get line.items (item_number line c))) ≡ Some m
        → (option_and_then mark_of (slice_get line.items (item_number line c)) ≡ Some m → Q m) → Q m
    pick true f on = absurd cc
    pick false f on = on f

-- ---- positions

-- the unit that a row is in is one of all
row_there : (R : UnitView → Type 0) (xs : List UnitView) (r : ℕ) (p : UnitView × ℕ) → AllByRecursion R xs
    → row_in xs r ≡ Some p → R p.0
row_there R [] r p h e = absurd cc
row_there R (x ∷ xs) r p h e =
    pick (nat_lt r (length x.lines)) e (λ f. row_there R xs (r - length x.lines) p h.1 f)
  where
    pick : (b : Bool) → cond b (Some (x, r)) (row_in xs (r - length x.lines)) ≡ Some p
        → (row_in xs (r - length x.lines) ≡ Some p → R p.0) → R p.0
    pick true f on = subst (λ (q : UnitView × ℕ). R q.0) (some_once (x, r) p f) h.0
    pick false f on = on f

module _ (document : WideTree) where
  abbrev IsThere : BasedPlace → Type 0
  IsThere p = IsPlace document (whole_path p) p.offset

  module _ (path : List ℕ) (root : IsPlace document path 0) where
    abbrev Q : Mark → Type 0
    Q m = IsLocated document path m

    first_there : (ms : List Mark) → AllByRecursion Q ms → IsThere (first_or ms path)
    first_there [] h = root
    first_there (m ∷ ms) h = h.0.0

    nearest_there : (before after : List Mark) → AllByRecursion Q before → AllByRecursion Q after
        → IsThere (nearest path before after)
    nearest_there [] after h k = first_there after k
    nearest_there (m ∷ []) after h k = h.0.1
    nearest_there (m ∷ (n ∷ ns)) after h k = nearest_there (n ∷ ns) after h.1 k

    by_there : (o : Option Mark) (before after : List Mark) → ((m : Mark) → o ≡ Some m → Q m)
        → AllByRecursion Q before → AllByRecursion Q after → IsThere (place_by o path before after)
    by_there (Some m) before after g h k = (g m refl).0
    by_there None before after g h k = nearest_there before after h k

    on_there : (above : List Line) (line : Line) (below : List Line) (c : ℕ)
        → All (λ l. All (OnMark Q) l.items) above → All (OnMark Q) line.items
        → All (λ l. All (OnMark Q) l.items) below → IsThere (place_on path above line below c)
    on_there above line below c up here down =
        let k : ℕ = item_number line c in
        let before : List Item = items_on above ++ take k line.items in
        let after : List Item = drop k line.items ++ items_on below in
        by_there (option_and_then mark_of (item_at line c)) (marks_of before) (marks_of after)
        (mark_here Q line c here)
        (all_marks Q before
        (All-append (OnMark Q) (items_on above) (take k line.items) (all_among (OnMark Q) (λ l. l.items) above up)
        (All-take (OnMark Q) k line.items here)))
        (all_marks Q after
        (All-append (OnMark Q) (drop k line.items) (items_on below) (All-drop (OnMark Q) k line.items here)
        (all_among (OnMark Q) (λ l. l.items) below down)))

    line_there : (lines : List Line) (i c : ℕ) (p : BasedPlace) → All (λ l. All (OnMark Q) l.items) lines
        → option_map (λ line. place_on path (take i lines) line (drop (i + 1) lines) c) (slice_get lines i) ≡ Some p
        → IsThere p
    line_there lines i c p all = by (slice_get lines i) refl
      where
        by : (o : Option Line) → slice_get lines i ≡ o
            → option_map (λ line. place_on path (take i lines) line (drop (i + 1) lines) c) o ≡ Some p → IsThere p
        by None e f = absurd cc
        by (Some line) e f =
            let P : Line → Type 0 = λ l. All (OnMark Q) l.items in
            let here : P line =
            subst P (get_or_from_slice_get lines i line line e) (all i line (slice_get_within lines i line e)) in
            let place : BasedPlace = place_on path (take i lines) line (drop (i + 1) lines) c in
            subst IsThere (some_once place p f)
            (on_there (take i lines) line (drop (i + 1) lines) c (All-take P i lines all) here
            (All-drop P (i + 1) lines all))

  in_there : (x : UnitView) (i c : ℕ) (p : BasedPlace) → ArePlaces document x → place_in x i c ≡ Some p → IsThere p
  in_there x i c p places = by x.path refl
    where
      by : (o : Option (List ℕ)) → x.path ≡ o
          → option_and_then
          (λ path. option_map (λ line. place_on path (take i x.lines) line (drop (i + 1) x.lines) c)
          (slice_get x.lines i)) o ≡ Some p
          → IsThere p
      by None e f = absurd cc
      by (Some path) e f =
          let h : HasPlaces document path x = places path e in line_there path h.root x.lines i c p h.lines f

  pub position_there : (xs : List UnitView) (width r c : ℕ) (p : BasedPlace) → AllByRecursion (ArePlaces document) xs
      → position_in xs width r c ≡ Some p → IsThere p
  position_there xs width r c p all = pick (nat_lt c width)
    where
      by : (o : Option (UnitView × ℕ)) → row_in xs r ≡ o → option_and_then (λ q. place_in q.0 q.1 c) o ≡ Some p
          → IsThere p
      by None e f = absurd cc
      by (Some q) e f = in_there q.0 q.1 c p (row_there (ArePlaces document) xs r q all e) f

      pick : (b : Bool) → cond b (option_and_then (λ q. place_in q.0 q.1 c) (row_in xs r)) None ≡ Some p → IsThere p
      pick true f = by (row_in xs r) refl f
      pick false f = absurd cc

  -- ---- stops

  abbrev IsStop : Place → Type 0
  IsStop p = IsPlace document p.path p.offset

  abbrev both_ends : List ℕ → Mark → List Place
  both_ends path m = mark_place path m m.start ∷ (mark_place path m m.stop ∷ [])

  ends_there : (path : List ℕ) (ms : List Mark) → AllByRecursion (IsLocated document path) ms
      → AllByRecursion IsStop (flat_map (both_ends path) ms)
  ends_there path [] h = tt
  ends_there path (m ∷ ms) h = (h.0.0, (h.0.1, ends_there path ms h.1))

  by_stops : (path : List ℕ) (ms : List Mark) → IsPlace document path 0 → AllByRecursion (IsLocated document path) ms
      → AllByRecursion IsStop (stops_by path ms)
  by_stops path [] root h = (root, tt)
  by_stops path (m ∷ ms) root h = ends_there path (m ∷ ms) h

  unit_stops_there : (x : UnitView) → ArePlaces document x → AllByRecursion IsStop (unit_stops x)
  unit_stops_there x places = by x.path refl
    where
      by : (o : Option (List ℕ)) → x.path ≡ o
          → AllByRecursion IsStop
          (option_map_or (λ path. stops_by path (marks_of (flat_map (λ p. p.items) x.paragraphs))) o [])
      by None e = tt
      by (Some path) e =
          let h : HasPlaces document path x = places path e in
          let all : All (OnMark (IsLocated document path)) (flat_map (λ p. p.items) x.paragraphs) =
          all_among (OnMark (IsLocated document path)) (λ p. p.items) x.paragraphs h.items in
          by_stops path (marks_of (flat_map (λ p. p.items) x.paragraphs)) h.root
          (all_marks (IsLocated document path) (flat_map (λ p. p.items) x.paragraphs) all)

  units_stops : (xs : List UnitView) → AllByRecursion (ArePlaces document) xs
      → AllByRecursion IsStop (flat_map unit_stops xs)
  units_stops [] h = tt
  units_stops (x ∷ xs) h =
      all_both IsStop (unit_stops x) (flat_map unit_stops xs) (unit_stops_there x h.0) (units_stops xs h.1)

  put_there : (ps : List Place) (p : Place) → AllByRecursion IsStop ps → IsStop p
      → AllByRecursion IsStop (put_place ps p)
  put_there ps p h k = pick (list_any (same_place p) ps)
    where
      pick : (b : Bool) → AllByRecursion IsStop (cond b ps (ps ++ p ∷ []))
      pick true = h
      pick false = all_both IsStop ps (p ∷ []) h (k, tt)

  once_there : (so_far ps : List Place) → AllByRecursion IsStop so_far → AllByRecursion IsStop ps
      → AllByRecursion IsStop (fold put_place so_far ps)
  once_there so_far [] h k = h
  once_there so_far (p ∷ ps) h k = once_there (put_place so_far p) ps (put_there so_far p h k.0) k.1

  pub stops_there : (xs : List UnitView) → AllByRecursion (ArePlaces document) xs
      → AllByRecursion IsStop (stops_of xs)
  stops_there xs h = once_there [] (flat_map unit_stops xs) tt (units_stops xs h)
