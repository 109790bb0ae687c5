-- The place on a row by the clusters of this row alone.
use Rattle.std.proofs.Common.{◌≡◌, ℕ, ◌-◌, Bool, true, false, cond, List, [], ◌∷◌, ◌++◌, length, map, take, drop}
use Rattle.std.proofs.Common.{Option, Some, None, refl, sym, ap, ap₂, ◌∙◌}
use Rattle.std.specs.Prelude.{option_and_then, slice_get, nat_lt}
use Rattle.std.specs.Option.{option_map, unwrap_or}
use Rattle.std.proofs.lemmas.Option.{same_Some, option_and_then_some}
use Rattle.std.proofs.lemmas.List.{take-map, drop-map}
use Rattle.tx_tree.specs.declared.places.Place.{Place}
use Rattle.tx_origin.specs.RelativePlaces.{BasedPlace, path_below}
use Rattle.tx_items.specs.declared.drawing.Item.{Item}
use Rattle.tx_layout.specs.declared.layout.Line.{Line}
use Rattle.tx_part_items.specs.ItemsUnder.{item_under}
use Rattle.tx_part_layout.specs.LinesUnder.{line_under}
use Rattle.tx_view_form.specs.Views.{UnitView}
use Rattle.tx_view_form.specs.Cells.{row_in, item_number, item_at}
use Rattle.tx_view_form.specs.Positions.{Mark, mark_of, marks_of, start_of, stop_of, place_on}
use Rattle.tx_moves.specs.Rows.{start_place, row_of}
use Rattle.tx_moves.specs.RowStops.{place_alone, is_past, last_start, stop_alone, stop_by, stop_in, stop_on}
use Rattle.tx_moves.proofs.Seeing.{among_item, parts_of, stop_some}
use Rattle.tx_view.specs.Marks.{first_of, last_or, last_of, spot_place}
use Rattle.tx_view.proofs.Deeper.{mark_at, number_under, at_under, place_covered, place_between}
use Rattle.tx_view.proofs.Finding.{or_else, first_append, marks_under}
use Rattle.tx_view.proofs.NearPlaces.{near_own, near_rest, own_is, rest_is}

-- ---- whether there is a stop

by_first : (ms : List Mark) (m : Mark) (p : Place) → first_of ms ≡ Some m → stop_by ms p ≡ Some p
by_first [] m p e = absurd cc
by_first (n ∷ ns) m p e = refl

no_mark : (ms : List Mark) → first_of ms ≡ None → ms ≡ []
no_mark [] e = refl
no_mark (m ∷ ms) e = absurd cc

last_none : (ms : List Mark) → last_of ms ≡ None → ms ≡ []
last_none [] e = refl
last_none (m ∷ ms) e = absurd (more m ms e)
  where
    more : (n : Mark) (ns : List Mark) → last_or (Some n) ns ≡ None → ⊥
    more n [] f = cc
    more n (k ∷ ks) f = more k ks f

last_some : (ms ns : List Mark) (m : Mark) (p : Place) → last_of ms ≡ Some m → stop_by (ms ++ ns) p ≡ Some p
last_some [] ns m p e = absurd cc
last_some (k ∷ ks) ns m p e = refl

first_some : (ms ns : List Mark) (m : Mark) (p : Place) → first_of ns ≡ Some m → stop_by (ms ++ ns) p ≡ Some p
first_some [] ns m p e = by_first ns m p e
first_some (k ∷ ks) ns m p e = refl

pub none_by : (ms : List Mark) (p q : Place) → None ≡ stop_by ms p → None ≡ stop_by ms q
none_by [] p q e = refl
none_by (m ∷ ms) p q e = absurd cc

pub some_by : (ms : List Mark) (p q : Place) → Some p ≡ stop_by ms q → (p ≡ q) × ((r : Place) → Some r ≡ stop_by ms r)
some_by [] p q e = absurd cc
some_by (m ∷ ms) p q e = (same_Some p q e, λ r. refl)

-- the place of a spot
pub place_made : (p : Place) (s : BasedPlace) → p.path ≡ path_below s.base s.origin → p.offset ≡ s.offset
    → p ≡ spot_place s
place_made p s e f = λ i. record { path = e i; offset = f i }

-- ---- a line of a part of a unit

module _ (path b : List ℕ) (l : Line) (goal : ℕ) where
  abbrev under : Line
  under = line_under b l

  abbrev alone : Place
  alone = place_alone path under goal

  abbrev before : List Mark
  before = marks_of (take (item_number under goal) under.items)

  abbrev after : List Mark
  after = marks_of (drop (item_number under goal) under.items)

  abbrev IsStop : Option Place → Type 0
  IsStop p = p ≡ stop_by (marks_of under.items) alone

  covered_item : (o : Option Item) (m : Mark) → item_at under goal ≡ o → option_and_then mark_of o ≡ Some m → (p : Place)
      → stop_by (marks_of under.items) p ≡ Some p
  covered_item None m e f p = absurd cc
  covered_item (Some item) m e f p =
      stop_some (start_place path) (marks_of under.items) (start_place path m)
      (among_item (start_place path) under.items (item_number under goal) item m
      (inside (nat_lt goal under.indent) e) f) p
    where
      inside : (t : Bool) → cond t None (slice_get under.items (item_number under goal)) ≡ Some item
          → slice_get under.items (item_number under goal) ≡ Some item
      inside true k = absurd cc
      inside false k = k

  -- the cluster that covers the column
  pub stop_covered : (o : Option Mark) (m : Mark) (s : BasedPlace) → o ≡ mark_at b l goal → o ≡ Some m
      → spot_place s ≡ spot_place (start_of path m) → IsStop (Some (spot_place s))
  stop_covered o m s e f is =
      let some : option_and_then mark_of (item_at under goal) ≡ Some m =
      ap (option_and_then mark_of) (at_under b l goal) ∙ sym e ∙ f in
      ap Some (is ∙ ap spot_place (sym (place_covered path [] [] b l goal o m e f)))
      ∙ sym (covered_item (item_at under goal) m refl some alone)

  module _ (o : Option Mark) (none : o ≡ mark_at b l goal) (lacks : o ≡ None) (is : List Item) (same : is ≡ l.items)
      (n : ℕ) (number : n ≡ item_number l goal) where
    abbrev front : List Item
    front = take n (map (item_under b) is)

    abbrev back : List Item
    back = drop n (map (item_under b) is)

    all_is : (p : Place) → stop_by (marks_of front ++ marks_of back) p ≡ stop_by (marks_of under.items) p
    all_is p =
        ap (λ ms. stop_by ms p)
        (parts_of (record l { items = map (item_under b) is }) n ∙ ap (λ js. marks_of (map (item_under b) js)) same)

    -- the last cluster before it
    pub stop_before : (r : Option Mark) (m : Mark) (s : BasedPlace) → r ≡ last_of (marks_under b (take n is))
        → r ≡ Some m → spot_place s ≡ spot_place (stop_of path m) → IsStop (Some (spot_place s))
    stop_before r m s e f at =
        ap Some (at ∙ ap spot_place (sym (place_between path [] [] b l goal o is n none lacks same number
        ∙ near_own path [] [] front back m (own_is b is n r (Some m) e f))))
        ∙ sym (sym (all_is alone)
        ∙ last_some (marks_of front) (marks_of back) m alone (own_is b is n r (Some m) e f))

    -- the first cluster after it
    pub stop_after : (q r : Option Mark) (m : Mark) (s : BasedPlace) → q ≡ last_of (marks_under b (take n is))
        → q ≡ None → r ≡ first_of (marks_under b (take (length is - n) (drop n is))) → r ≡ Some m
        → spot_place s ≡ spot_place (start_of path m) → IsStop (Some (spot_place s))
    stop_after q r m s d c e f at =
        ap Some (at ∙ ap spot_place (sym (place_between path [] [] b l goal o is n none lacks same number
        ∙ near_rest path [] [] front back m (own_is b is n q None d c) refl (rest_is b is n r (Some m) e f))))
        ∙ sym (sym (all_is alone)
        ∙ first_some (marks_of front) (marks_of back) m alone (rest_is b is n r (Some m) e f))

    -- none
    pub no_stop : (q r : Option Mark) → q ≡ last_of (marks_under b (take n is)) → q ≡ None
        → r ≡ first_of (marks_under b (take (length is - n) (drop n is))) → r ≡ None → IsStop None
    no_stop q r d c e f =
        sym (sym (all_is alone)
        ∙ ap₂ (λ ms ns. stop_by (ms ++ ns) alone) (last_none (marks_of front) (own_is b is n q None d c))
        (no_mark (marks_of back) (rest_is b is n r None e f)))

-- ---- the start of the last cluster before a column

abbrev start_or : List ℕ → Option Mark → Place → Place
start_or path o other = unwrap_or (option_map (start_place path) o) other

last_from : (path : List ℕ) (other : Place) (o : Option Mark) (ms : List Mark)
    → last_start path (start_or path o other) ms ≡ start_or path (last_or o ms) other
last_from path other o [] = refl
last_from path other o (m ∷ ms) = last_from path other (Some m) ms

pub last_is : (path b : List ℕ) (l : Line) (goal : ℕ) (is : List Item) (n : ℕ) (r o : Option Mark) (s : Option BasedPlace)
    → is ≡ l.items → n ≡ item_number l goal → r ≡ last_of (marks_under b (take n is)) → r ≡ o
    → option_map spot_place s ≡ option_map (start_place path) o → (other : Place)
    → last_start path other (marks_of (take (item_number (line_under b l) goal) (line_under b l).items))
    ≡ unwrap_or (option_map spot_place s) other
last_is path b l goal is n r o s same number found e at other =
    last_from path other None (marks_of (take (item_number (line_under b l) goal) (line_under b l).items))
    ∙ ap (λ p. start_or path p other)
    (ap₂ (λ k js. last_of (marks_of (take k (map (item_under b) js)))) (number_under b l goal ∙ sym number) (sym same)
    ∙ own_is b is n r o found e)
    ∙ ap (λ p. unwrap_or p other) (sym at)

-- ---- the stop of a row

pub no_row : (us : List UnitView) (r goal : ℕ) → row_in us r ≡ None → stop_on us r goal ≡ None
no_row us r goal e = ap (λ o. option_and_then (λ p. stop_in us r p.0 p.1 goal) o) e

pub no_path : (us : List UnitView) (r goal i : ℕ) (x : UnitView) → row_in us r ≡ Some (x, i) → x.path ≡ None
    → stop_on us r goal ≡ None
no_path us r goal i x there none =
    ap (λ o. option_and_then (λ p. stop_in us r p.0 p.1 goal) o) there
    ∙ ap (λ o. option_and_then (λ path. option_and_then
    (λ l. stop_by (marks_of l.items) (stop_alone us r path l goal)) (slice_get x.lines i)) o) none

module _ (us : List UnitView) (r : ℕ) (path : List ℕ) (l : Line) (goal : ℕ) where
  abbrev stop_of_row : Option Place
  stop_of_row = stop_by (marks_of l.items) (stop_alone us r path l goal)

  abbrev last_before : Place → Place
  last_before other = last_start path other (marks_of (take (item_number l goal) l.items))

  pub stays : (at : Place) → Some at ≡ stop_by (marks_of l.items) (place_alone path l goal)
      → is_past r (row_of us at) ≡ false → Some at ≡ stop_of_row
  stays at e near =
      let parts = some_by (marks_of l.items) at (place_alone path l goal) e in
      let alone_near : is_past r (row_of us (place_alone path l goal)) ≡ false =
      ap (λ p. is_past r (row_of us p)) (sym parts.0) ∙ near in
      ap Some parts.0
      ∙ sym (ap (λ b. Some (cond b (last_before (place_alone path l goal)) (place_alone path l goal))) alone_near)
      ∙ parts.1 (stop_alone us r path l goal)

  pub goes_back : (at other : Place) → Some at ≡ stop_by (marks_of l.items) (place_alone path l goal)
      → is_past r (row_of us at) ≡ true → last_before at ≡ other → Some other ≡ stop_of_row
  goes_back at other e past is =
      let parts = some_by (marks_of l.items) at (place_alone path l goal) e in
      let alone_past : is_past r (row_of us (place_alone path l goal)) ≡ true =
      ap (λ p. is_past r (row_of us p)) (sym parts.0) ∙ past in
      ap Some (sym is ∙ ap last_before parts.0)
      ∙ sym (ap (λ b. Some (cond b (last_before (place_alone path l goal)) (place_alone path l goal))) alone_past)
      ∙ parts.1 (stop_alone us r path l goal)
