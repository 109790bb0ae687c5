-- The place on a row is one of the stops.
use Rattle.std.proofs.Common.{◌≡◌, ℕ, zero, suc, ◌-◌, Bool, true, false, cond, ◌||◌, List, [], ◌∷◌, ◌++◌, length}
use Rattle.std.proofs.Common.{get_or, Option, Some, None, refl, sym, ap, ◌∙◌, subst, inl, inr, ⊎_elim, take, drop}
use Rattle.std.specs.Prelude.{All, slice_get, option_and_then, nat_lt, ◌⊎◌}
use Rattle.std.specs.List.{AllByRecursion, cons_option, flat_map, list_any, fold}
use Rattle.std.specs.Option.{option_map_or}
use Rattle.std.proofs.lemmas.Bool.{or_cases}
use Rattle.std.proofs.lemmas.List.Elements.{filter_map-append, All-head, All-tail}
use Rattle.std.proofs.lemmas.Option.{same_Some, some_pair_parts, slice_get-get_or, get_or_from_slice_get}
use Rattle.std.proofs.lemmas.Option.{slice_get_within, option_and_then_some}
use Rattle.tx_tree.specs.SamePlaces.{same_place}
use Rattle.tx_tree.specs.declared.places.Place.{Place}
use Rattle.tx_origin.specs.TaggedTrees.{tagged_of}
use Rattle.tx_doc.specs.declared.buffer.Buffer.{Buffer}
use Rattle.tx_units.specs.declared.kinds.Unit.{Unit as DocUnit}
use Rattle.tx_units.specs.Units.{units}
use Rattle.tx_items.specs.declared.drawing.Item.{Item}
use Rattle.tx_items.specs.declared.drawing.Item.TheVariants.{Glyph, Space, Chance, Gap, Break, PageEnd, Down}
use Rattle.tx_items.specs.declared.drawing.Paragraph.{Paragraph}
use Rattle.tx_layout.specs.declared.layout.Line.{Line}
use Rattle.tx_layout.specs.Words.{capped_item}
use Rattle.tx_view_form.specs.Outcomes.{Moment, beginning, outcome, behind}
use Rattle.tx_view_form.specs.Views.{UnitView, AreLines, AreShown, WideView, IsView}
use Rattle.tx_view_form.specs.Cells.{row_in, item_number}
use Rattle.tx_view_form.specs.Positions.{Mark, mark_of, marks_of}
use Rattle.tx_view_form.specs.Stops.{stops_by, unit_stops, put_place, stops_of}
use Rattle.tx_moves.specs.Rows.{start_place, stop_place, row_of}
use Rattle.tx_moves.specs.RowStops.{place_alone, is_past, last_start, stop_alone, stop_by, stop_in, stop_on}
use Rattle.tx_moves.proofs.Finding.{same_is, same_self}
use Rattle.tx_moves.proofs.Seeing.{Among, among_front, among_item, last_among, placed, parts_of}
use Rattle.tx_moves.proofs.OnLines.{lines_hold}

-- ---- the place on a row is a start or an end on it

abbrev IsEnd : List ℕ → List Mark → Place → Type 0
IsEnd path ms at = Among (start_place path) ms at ⊎ Among (stop_place path) ms at

last_or : (path : List ℕ) (other : Place) (before after : List Mark)
    → Among (start_place path) (before ++ after) (last_start path other before)
    ⊎ (other ≡ last_start path other before)
last_or path other [] after = inr refl
last_or path other (m ∷ ms) after =
    inl (among_front (start_place path) (m ∷ ms) after (last_start path other (m ∷ ms)) (last_among path other m ms))

alone_end : (xs : List UnitView) (r : ℕ) (path : List ℕ) (line : Line) (goal : ℕ) (n : Mark) (ns : List Mark)
    → marks_of line.items ≡ n ∷ ns → IsEnd path (marks_of line.items) (stop_alone xs r path line goal)
alone_end xs r path line goal n ns some = by (is_past r (row_of xs (place_alone path line goal)))
  where
    own : IsEnd path (marks_of line.items) (place_alone path line goal)
    own = ⊎_elim (λ a. inl a) (λ b. inr b.ends) (placed path line goal n ns some)

    by : (b : Bool)
        → IsEnd path (marks_of line.items)
        (cond b
        (last_start path (place_alone path line goal) (marks_of (take (item_number line goal) line.items)))
        (place_alone path line goal))
    by false = own
    by true =
        let k : ℕ = item_number line goal in
        let before : List Mark = marks_of (take k line.items) in
        let p : Place = last_start path (place_alone path line goal) before in
        ⊎_elim (λ a. inl (subst (λ l. Among (start_place path) l p) (parts_of line k) a))
        (λ e. subst (IsEnd path (marks_of line.items)) e own)
        (last_or path (place_alone path line goal) before (marks_of (drop k line.items)))

-- ---- marks of lines are marks of their paragraphs

among_back : (place : Mark → Place) (xs ys : List Mark) (at : Place) → Among place ys at → Among place (xs ++ ys) at
among_back place [] ys at h = h
among_back place (x ∷ xs) ys at h = inr (among_back place xs ys at h)

abbrev all_items : List Paragraph → List Item
all_items ps = flat_map (λ p. p.items) ps

among_all : (place : Mark → Place) (ps : List Paragraph) (k : ℕ) (p : Paragraph) (at : Place)
    → slice_get ps k ≡ Some p → Among place (marks_of p.items) at → Among place (marks_of (all_items ps)) at
among_all place [] k p at e h = absurd cc
among_all place (x ∷ xs) zero p at e h =
    let same : p ≡ x = sym (same_Some x p e) in
    let own : Among place (marks_of x.items) at = subst (λ q. Among place (marks_of q.items) at) same h in
    subst (λ l. Among place l at) (sym (filter_map-append mark_of x.items (all_items xs)))
    (among_front place (marks_of x.items) (marks_of (all_items xs)) at own)
among_all place (x ∷ xs) (suc k) p at e h =
    subst (λ l. Among place l at) (sym (filter_map-append mark_of x.items (all_items xs)))
    (among_back place (marks_of x.items) (marks_of (all_items xs)) at (among_all place xs k p at e h))

-- a mark of the item is one of these
abbrev IsOneOf : List Mark → Item → Type 0
IsOneOf all item = (m : Mark) → mark_of item ≡ Some m → (place : Mark → Place) → Among place all (place m)

all_own : (ps : List Paragraph) → All (λ p. All (IsOneOf (marks_of (all_items ps))) p.items) ps
all_own ps k d lt j e within m has place =
    let p : Paragraph = get_or ps k d in
    among_all place ps k p (place m) (slice_get-get_or ps k d lt)
    (among_item place p.items j (get_or p.items j e) m (slice_get-get_or p.items j e within) has)

capped_own : (all : List Mark) (least : ℕ) (item : Item) → IsOneOf all item → IsOneOf all (capped_item least item)
capped_own all least (Glyph d) h = h
capped_own all least (Space d) h = h
capped_own all least (Chance d) h = h
capped_own all least (Gap n) h = h
capped_own all least Break h = h
capped_own all least PageEnd h = h
capped_own all least (Down n) h = h

line_own : (width : ℕ) (ps : List Paragraph) (lines : List Line) (i : ℕ) (line : Line) → AreLines width ps lines
    → slice_get lines i ≡ Some line → All (IsOneOf (marks_of (all_items ps))) line.items
line_own width ps lines i line h e =
    let all : List Mark = marks_of (all_items ps) in
    let P : Line → Type 0 = λ l. All (IsOneOf all) l.items in
    let each : All P lines =
    lines_hold (IsOneOf all) (λ n m none. absurd cc) (capped_own all) width ps lines h (all_own ps) in
    subst P (get_or_from_slice_get lines i line line e) (each i line (slice_get_within lines i line e))

among_own : (place : Mark → Place) (all : List Mark) (items : List Item) (at : Place) → All (IsOneOf all) items
    → Among place (marks_of items) at → Among place all at
among_own place all [] at own h = absurd h
among_own place all (x ∷ xs) at own h =
    by (mark_of x) refl h (among_own place all xs at (All-tail (IsOneOf all) x xs own))
  where
    by : (o : Option Mark) → mark_of x ≡ o → Among place (cons_option o (marks_of xs)) at
        → (Among place (marks_of xs) at → Among place all at) → Among place all at
    by None e k more = more k
    by (Some m) e (inl same) more =
        subst (Among place all) same (All-head (IsOneOf all) x xs own m e place)
    by (Some m) e (inr k) more = more k

-- ---- stops

abbrev IsIn : List Place → Place → Type 0
IsIn ps at = list_any (same_place at) ps ≡ true

or_right : (a b : Bool) → b ≡ true → (a || b) ≡ true
or_right true b e = refl
or_right false b e = e

or_left : (a b : Bool) → a ≡ true → (a || b) ≡ true
or_left true b e = refl
or_left false b e = absurd cc

in_front : (xs ys : List Place) (at : Place) → IsIn xs at → IsIn (xs ++ ys) at
in_front [] ys at h = absurd cc
in_front (x ∷ xs) ys at h =
    ⊎_elim (λ a. or_left (same_place at x) (list_any (same_place at) (xs ++ ys)) a)
    (λ b. or_right (same_place at x) (list_any (same_place at) (xs ++ ys)) (in_front xs ys at b))
    (or_cases (same_place at x) (list_any (same_place at) xs) h)

in_back : (xs ys : List Place) (at : Place) → IsIn ys at → IsIn (xs ++ ys) at
in_back [] ys at h = h
in_back (x ∷ xs) ys at h = or_right (same_place at x) (list_any (same_place at) (xs ++ ys)) (in_back xs ys at h)

same_here : (at p : Place) → p ≡ at → same_place at p ≡ true
same_here at p e = ap (same_place at) e ∙ same_self at

abbrev both : List ℕ → Mark → List Place
both path n = start_place path n ∷ (stop_place path n ∷ [])

start_in : (path : List ℕ) (ms : List Mark) (at : Place) → Among (start_place path) ms at
    → IsIn (flat_map (both path) ms) at
start_in path [] at h = absurd h
start_in path (m ∷ ms) at (inl e) =
    in_front (both path m) (flat_map (both path) ms) at
    (or_left (same_place at (start_place path m)) (same_place at (stop_place path m) || false)
    (same_here at (start_place path m) e))
start_in path (m ∷ ms) at (inr h) =
    in_back (both path m) (flat_map (both path) ms) at (start_in path ms at h)

stop_at : (path : List ℕ) (ms : List Mark) (at : Place) → Among (stop_place path) ms at
    → IsIn (flat_map (both path) ms) at
stop_at path [] at h = absurd h
stop_at path (m ∷ ms) at (inl e) =
    in_front (both path m) (flat_map (both path) ms) at
    (or_right (same_place at (start_place path m)) (same_place at (stop_place path m) || false)
    (or_left (same_place at (stop_place path m)) false (same_here at (stop_place path m) e)))
stop_at path (m ∷ ms) at (inr h) = in_back (both path m) (flat_map (both path) ms) at (stop_at path ms at h)

end_in : (path : List ℕ) (ms : List Mark) (at : Place) → IsEnd path ms at → IsIn (stops_by path ms) at
end_in path [] at (inl h) = absurd h
end_in path [] at (inr h) = absurd h
end_in path (m ∷ ms) at (inl h) = start_in path (m ∷ ms) at h
end_in path (m ∷ ms) at (inr h) = stop_at path (m ∷ ms) at h

-- what was there stays
put_keeps : (ps : List Place) (p at : Place) → IsIn ps at → IsIn (put_place ps p) at
put_keeps ps p at h = pick (list_any (same_place p) ps)
  where
    pick : (b : Bool) → IsIn (cond b ps (ps ++ p ∷ [])) at
    pick true = h
    pick false = in_front ps (p ∷ []) at h

put_has : (ps : List Place) (p at : Place) → same_place at p ≡ true → IsIn (put_place ps p) at
put_has ps p at e = pick (list_any (same_place p) ps) refl
  where
    pick : (b : Bool) → list_any (same_place p) ps ≡ b → IsIn (cond b ps (ps ++ p ∷ [])) at
    pick true q = subst (IsIn ps) (sym (same_is at p e)) q
    pick false q = in_back ps (p ∷ []) at (or_left (same_place at p) false e)

once_keeps : (so_far ps : List Place) (at : Place) → IsIn so_far at → IsIn (fold put_place so_far ps) at
once_keeps so_far [] at h = h
once_keeps so_far (p ∷ ps) at h = once_keeps (put_place so_far p) ps at (put_keeps so_far p at h)

once_has : (so_far ps : List Place) (at : Place) → IsIn ps at → IsIn (fold put_place so_far ps) at
once_has so_far [] at h = absurd cc
once_has so_far (p ∷ ps) at h =
    ⊎_elim (λ a. once_keeps (put_place so_far p) ps at (put_has so_far p at a))
    (λ b. once_has (put_place so_far p) ps at b)
    (or_cases (same_place at p) (list_any (same_place at) ps) h)

-- ---- units

-- the lines of the unit are those of its paragraphs
abbrev pub IsLaid : ℕ → UnitView → Type 0
IsLaid width x = AreLines width x.paragraphs x.lines

pub all_laid : (width : ℕ) (m : Moment) (us : List DocUnit) (xs : List UnitView) → AreShown width m us xs
    → AllByRecursion (IsLaid width) xs
all_laid width m [] [] h = tt
all_laid width m [] (x ∷ xs) h = absurd h
all_laid width m (u ∷ us) [] h = absurd h
all_laid width m (u ∷ us) (x ∷ xs) h =
    (h.0.lines, all_laid width (behind m (outcome (tagged_of u.tagged) m)) us xs h.1)

-- the unit of a row, and that its stops are among all
record IsUnit (width : ℕ) (xs : List UnitView) (x : UnitView) : Type 0 where
  laid : IsLaid width x
  stops : (at : Place) → IsIn (unit_stops x) at → IsIn (flat_map unit_stops xs) at

unit_of : (width : ℕ) (xs : List UnitView) (r i : ℕ) (x : UnitView) → AllByRecursion (IsLaid width) xs
    → row_in xs r ≡ Some (x, i) → IsUnit width xs x
unit_of width [] r i x all e = absurd cc
unit_of width (y ∷ ys) r i x all e =
    pick (nat_lt r (length y.lines)) e (unit_of width ys (r - length y.lines) i x all.1)
  where
    pick : (b : Bool) → cond b (Some (y, r)) (row_in ys (r - length y.lines)) ≡ Some (x, i)
        → (row_in ys (r - length y.lines) ≡ Some (x, i) → IsUnit width ys x) → IsUnit width (y ∷ ys) x
    pick true k more =
        subst (IsUnit width (y ∷ ys)) (some_pair_parts y x r i k).0
        (record { laid = all.0; stops = λ at h. in_front (unit_stops y) (flat_map unit_stops ys) at h })
    pick false k more =
        let rest = more k in
        record {
          laid = rest.laid;
          stops = λ at h. in_back (unit_stops y) (flat_map unit_stops ys) at (rest.stops at h);
        }

stop_there : (width : ℕ) (xs : List UnitView) (r goal i : ℕ) (x : UnitView) (path : List ℕ) (line : Line) (at : Place)
    → IsUnit width xs x → x.path ≡ Some path → slice_get x.lines i ≡ Some line
    → stop_by (marks_of line.items) (stop_alone xs r path line goal) ≡ Some at → IsIn (stops_of xs) at
stop_there width xs r goal i x path line at unit has is = by (marks_of line.items) refl
  where
    by : (ms : List Mark) → marks_of line.items ≡ ms → stop_by ms (stop_alone xs r path line goal) ≡ Some at
        → IsIn (stops_of xs) at
    by [] q k = absurd cc
    by (n ∷ ns) q k =
        let all : List Mark = marks_of (all_items x.paragraphs) in
        let own : All (IsOneOf all) line.items = line_own width x.paragraphs x.lines i line unit.laid is in
        let same : stop_alone xs r path line goal ≡ at = same_Some (stop_alone xs r path line goal) at k in
        let here : IsEnd path (marks_of line.items) at =
        subst (IsEnd path (marks_of line.items)) same (alone_end xs r path line goal n ns q) in
        let there : IsEnd path all at =
        ⊎_elim (λ a. inl (among_own (start_place path) all line.items at own a))
        (λ b. inr (among_own (stop_place path) all line.items at own b)) here in
        let stops : IsIn (unit_stops x) at =
        ap (λ o. list_any (same_place at) (option_map_or (λ p. stops_by p all) o [])) has ∙ end_in path all at there in
        once_has [] (flat_map unit_stops xs) at (unit.stops at stops)

pub stop_among : (buffers : List Buffer) (width height r goal : ℕ) (v : WideView) (at : Place)
    → IsView buffers width height v → stop_on v.units r goal ≡ Some at
    → list_any (same_place at) (stops_of v.units) ≡ true
stop_among buffers width height r goal v at h e =
    let xs : List UnitView = v.units in
    option_and_then_some {P = IsIn (stops_of xs) at} (λ p. stop_in xs r p.0 p.1 goal) (row_in xs r) at e
    (λ p there in_unit.
    option_and_then_some {P = IsIn (stops_of xs) at}
    (λ path.
    option_and_then (λ line. stop_by (marks_of line.items) (stop_alone xs r path line goal)) (slice_get p.0.lines p.1))
    p.0.path at in_unit
    (λ path has on_path.
    option_and_then_some {P = IsIn (stops_of xs) at}
    (λ line. stop_by (marks_of line.items) (stop_alone xs r path line goal)) (slice_get p.0.lines p.1) at on_path
    (λ line is stop.
    stop_there width xs r goal p.1 p.0 path line at
    (unit_of width xs r p.1 p.0 (all_laid width beginning (units buffers) xs h.shown) there) has is stop)))
