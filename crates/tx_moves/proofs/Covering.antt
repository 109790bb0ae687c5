-- At each column of the first cluster that begins at a place, and at the row of a bare unit, is that place.
use Rattle.std.proofs.Common.{◌≡◌, ℕ, zero, suc, ◌+◌, ◌<◌, ◌≤◌, Bool, true, false, cond, List, [], ◌∷◌, ◌++◌, length}
use Rattle.std.proofs.Common.{Option, Some, None, refl, sym, ap, ◌∙◌, subst, arith, lt-ltb, take, drop}
use Rattle.std.proofs.Common.{take-append-drop}
use Rattle.std.specs.Prelude.{slice_get, option_and_then, nat_lt}
use Rattle.std.specs.List.{cons_option}
use Rattle.std.specs.Option.{option_map}
use Rattle.std.proofs.lemmas.Option.{same_Some, slice_get_within}
use Rattle.std.proofs.lemmas.List.Concat.{flat_map-append}
use Rattle.std.proofs.lemmas.List.Elements.{filter_map-append}
use Rattle.tx_tree.specs.SamePlaces.{same_place}
use Rattle.tx_tree.specs.declared.places.Place.{Place}
use Rattle.tx_items.specs.declared.drawing.Item.{Item}
use Rattle.tx_items.specs.Cells.{item_cells, cells_across}
use Rattle.tx_layout.specs.declared.layout.Line.{Line}
use Rattle.tx_view_form.specs.Views.{UnitView}
use Rattle.tx_view_form.specs.Cells.{row_in, item_number, item_at}
use Rattle.tx_view_form.specs.Positions.{Mark, mark_of, marks_of, items_on, start_of, unit_place, nearest, place_by}
use Rattle.tx_view_form.specs.Positions.{place_on, place_in, position_in}
use Rattle.tx_moves.specs.Rows.{whole_place, start_place, has_place, Extent, begun_in, bare_by, bare_in, begun_at}
use Rattle.tx_moves.specs.Rows.{bare_at, extent_in}
use Rattle.tx_moves.proofs.Finding.{same_is, IsMarked, marked, IsFoundIn, found_in, IsOnLines, IsFoundAt, found_at}

pub in_lines : (test : Item → Bool) (lines : List Line) (e : Extent) → extent_in test lines ≡ Some e
    → e.row < length lines
in_lines test lines e h =
    let found : IsFoundIn test lines e = found_in test lines e h in
    slice_get_within lines e.row found.line found.there

-- the position at a column of a line of a unit
position_there : (xs : List UnitView) (width r c i : ℕ) (x : UnitView) (path : List ℕ) (line : Line) → c < width
    → row_in xs r ≡ Some (x, i) → x.path ≡ Some path → slice_get x.lines i ≡ Some line
    → position_in xs width r c ≡ Some (place_on path (take i x.lines) line (drop (i + 1) x.lines) c)
position_there xs width r c i x path line narrow there has is =
    ap (λ b. cond b (option_and_then (λ p. place_in p.0 p.1 c) (row_in xs r)) None) (lt-ltb c width narrow)
    ∙ ap (λ o. option_and_then (λ p. place_in p.0 p.1 c) o) there
    ∙ ap
    (λ o.
    option_and_then
    (λ q. option_map (λ l. place_on q (take i x.lines) l (drop (i + 1) x.lines) c) (slice_get x.lines i)) o)
    has
    ∙ ap (λ o. option_map (λ l. place_on path (take i x.lines) l (drop (i + 1) x.lines) c) o) is

-- ---- a cluster that begins at the place

abbrev pub CoversCells : Type 0
CoversCells =
    (line : Line) (front back : List Item) (item : Item) (c : ℕ) → line.items ≡ front ++ item ∷ back
    → line.indent + cells_across front ≤ c → c < line.indent + cells_across front + item_cells item
    → item_at line c ≡ Some item

pub mark_covers : (path : List ℕ) (above below : List Line) (line : Line) (c : ℕ) (item : Item) (m : Mark)
    → item_at line c ≡ Some item → mark_of item ≡ Some m → place_on path above line below c ≡ start_of path m
mark_covers path above below line c item m e has =
    let found : option_and_then mark_of (item_at line c) ≡ Some m = ap (λ o. option_and_then mark_of o) e ∙ has in
    ap
    (λ o.
    place_by o path (marks_of (items_on above ++ take (item_number line c) line.items))
    (marks_of (drop (item_number line c) line.items ++ items_on below)))
    found

pub begun_there : CoversCells → (xs : List UnitView) (width c : ℕ) (at : Place) (e : Extent)
    → begun_at xs at ≡ Some e → e.from ≤ c → c < e.to → c < width
    → option_map whole_place (position_in xs width e.row c) ≡ Some at
begun_there covers xs width c at e h low high narrow =
    let on_lines : IsOnLines (begun_in at) =
    λ path lines. in_lines (has_place (start_place path) at) lines in
    let unit : IsFoundAt (begun_in at) xs e = found_at (begun_in at) on_lines xs e h in
    let path : List ℕ = unit.path in
    let lines : List Line = unit.unit.lines in
    let i : ℕ = unit.inner.row in
    let test : Item → Bool = has_place (start_place path) at in
    let on : IsFoundIn test lines unit.inner = found_in test lines unit.inner unit.found in
    let mark : IsMarked (start_place path) at on.item = marked (start_place path) at on.item on.passes in
    let from = unit.from in
    let to = unit.to in
    let begins = on.begins in
    let ends = on.ends in
    let item : item_at on.line c ≡ Some on.item =
    covers on.line on.front on.back on.item c on.are (omega arith) (omega arith) in
    ap (option_map whole_place)
    (position_there xs width e.row c i unit.unit path on.line narrow unit.there unit.has_path on.there)
    ∙ ap (λ p. Some (whole_place p))
    (mark_covers path (take i lines) (drop (i + 1) lines) on.line c on.item mark.mark item mark.has)
    ∙ ap Some (sym mark.is)

-- ---- a unit without marks

none_both : (xs ys : List Mark) → xs ++ ys ≡ [] → (xs ≡ []) × (ys ≡ [])
none_both [] ys e = (refl, e)
none_both (x ∷ xs) ys e = absurd cc

bare_both : (xs ys : List Item) → marks_of (xs ++ ys) ≡ [] → (marks_of xs ≡ []) × (marks_of ys ≡ [])
bare_both xs ys e = none_both (marks_of xs) (marks_of ys) (sym (filter_map-append mark_of xs ys) ∙ e)

pub bare_cut : (n : ℕ) (items : List Item) → marks_of items ≡ []
    → (marks_of (take n items) ≡ []) × (marks_of (drop n items) ≡ [])
bare_cut n items e = bare_both (take n items) (drop n items) (ap marks_of (take-append-drop n items) ∙ e)

bare_lines : (n : ℕ) (lines : List Line) → marks_of (items_on lines) ≡ []
    → (marks_of (items_on (take n lines)) ≡ []) × (marks_of (items_on (drop n lines)) ≡ [])
bare_lines n lines e =
    bare_both (items_on (take n lines)) (items_on (drop n lines))
    (ap marks_of (sym (flat_map-append (λ line. line.items) (take n lines) (drop n lines)))
    ∙ ap (λ l. marks_of (items_on l)) (take-append-drop n lines) ∙ e)

bare_line : (lines : List Line) (i : ℕ) (line : Line) → marks_of (items_on lines) ≡ [] → slice_get lines i ≡ Some line
    → marks_of line.items ≡ []
bare_line [] i line e h = absurd cc
bare_line (x ∷ xs) zero line e h =
    let same : x ≡ line = same_Some x line h in
    subst (λ l. marks_of l.items ≡ []) same (bare_both x.items (items_on xs) e).0
bare_line (x ∷ xs) (suc i) line e h = bare_line xs i line (bare_both x.items (items_on xs) e).1 h

pub bare_item : (items : List Item) (k : ℕ) → marks_of items ≡ [] → option_and_then mark_of (slice_get items k) ≡ None
bare_item [] k e = refl
bare_item (x ∷ xs) zero e = by (mark_of x) refl e
  where
    by : (o : Option Mark) → mark_of x ≡ o → cons_option o (marks_of xs) ≡ [] → mark_of x ≡ None
    by None q h = q
    by (Some m) q h = absurd cc
bare_item (x ∷ xs) (suc k) e = bare_item xs k (bare_both (x ∷ []) xs e).1

bare_at_column : (line : Line) (c : ℕ) → marks_of line.items ≡ [] → option_and_then mark_of (item_at line c) ≡ None
bare_at_column line c e = pick (nat_lt c line.indent)
  where
    pick : (b : Bool) → option_and_then mark_of (cond b None (slice_get line.items (item_number line c))) ≡ None
    pick true = refl
    pick false = bare_item line.items (item_number line c) e

bare_place : (path : List ℕ) (above below : List Line) (line : Line) (c : ℕ) → marks_of (items_on above) ≡ []
    → marks_of line.items ≡ [] → marks_of (items_on below) ≡ []
    → place_on path above line below c ≡ unit_place path
bare_place path above below line c up here down =
    let n : ℕ = item_number line c in
    let cut = bare_cut n line.items here in
    let before : List Mark = marks_of (items_on above ++ take n line.items) in
    let after : List Mark = marks_of (drop n line.items ++ items_on below) in
    let no_before : before ≡ [] =
    filter_map-append mark_of (items_on above) (take n line.items)
    ∙ ap (λ l. l ++ marks_of (take n line.items)) up ∙ cut.0 in
    let no_after : after ≡ [] =
    filter_map-append mark_of (drop n line.items) (items_on below)
    ∙ ap (λ l. l ++ marks_of (items_on below)) cut.1 ∙ down in
    ap (λ o. place_by o path before after) (bare_at_column line c here)
    ∙ ap (λ ms. nearest path ms after) no_before ∙ ap (λ ms. nearest path [] ms) no_after

pub record IsBare (at : Place) (path : List ℕ) (lines : List Line) (e : Extent) : Type 0 where
  pub line : Line
  pub there : slice_get lines e.row ≡ Some line
  pub none : marks_of (items_on lines) ≡ []
  pub is : at ≡ whole_place (unit_place path)
  pub from : e.from ≡ line.indent
  pub to : e.to ≡ line.indent

pub bared : (at : Place) (path : List ℕ) (lines : List Line) (e : Extent) → bare_in at path lines ≡ Some e
    → IsBare at path lines e
bared at path lines e = by (marks_of (items_on lines)) refl lines refl
  where
    pick : (line : Line) (others : List Line) → lines ≡ line ∷ others → marks_of (items_on lines) ≡ [] → (b : Bool)
        → same_place at (whole_place (unit_place path)) ≡ b
        → cond b (Some (record { row = 0; from = line.indent; to = line.indent })) None ≡ Some e
        → IsBare at path lines e
    pick line others are none false q h = absurd cc
    pick line others are none true q h =
        let d : Extent = record { row = 0; from = line.indent; to = line.indent } in
        let same : d ≡ e = same_Some d e h in
        subst (IsBare at path lines) same
        (record {
          line = line;
          there = ap (λ l. slice_get l 0) are;
          none = none;
          is = same_is at (whole_place (unit_place path)) q;
          from = refl;
          to = refl;
        })

    by : (ms : List Mark) → marks_of (items_on lines) ≡ ms → (all : List Line) → lines ≡ all
        → bare_by ms at path all ≡ Some e → IsBare at path lines e
    by (m ∷ ms) q all are h = absurd cc
    by [] q [] are h = absurd cc
    by [] q (line ∷ others) are h =
        pick line others are q (same_place at (whole_place (unit_place path))) refl h

pub bare_on_lines : (at : Place) → IsOnLines (bare_in at)
bare_on_lines at path lines d found =
    let bare : IsBare at path lines d = bared at path lines d found in
    slice_get_within lines d.row bare.line bare.there

pub bare_there : (xs : List UnitView) (width : ℕ) (at : Place) (e : Extent) → bare_at xs at ≡ Some e → e.from < width
    → option_map whole_place (position_in xs width e.row e.from) ≡ Some at
bare_there xs width at e h narrow =
    let unit : IsFoundAt (bare_in at) xs e = found_at (bare_in at) (bare_on_lines at) xs e h in
    let path : List ℕ = unit.path in
    let lines : List Line = unit.unit.lines in
    let i : ℕ = unit.inner.row in
    let bare : IsBare at path lines unit.inner = bared at path lines unit.inner unit.found in
    ap (option_map whole_place)
    (position_there xs width e.row e.from i unit.unit path bare.line narrow unit.there unit.has_path bare.there)
    ∙ ap (λ p. Some (whole_place p))
    (bare_place path (take i lines) (drop (i + 1) lines) bare.line e.from (bare_lines i lines bare.none).0
    (bare_line lines i bare.line bare.none bare.there) (bare_lines (i + 1) lines bare.none).1)
    ∙ ap Some (sym bare.is)
