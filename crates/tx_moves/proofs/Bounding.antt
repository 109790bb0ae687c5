-- In which unit a place has its row, and that its column is within the page.
use Rattle.std.proofs.Common.{◌≡◌, ℕ, ◌+◌, ◌-◌, ◌≤◌, Bool, true, false, cond, List, [], ◌∷◌, ◌++◌, length, append-nil}
use Rattle.std.proofs.Common.{Option, Some, None, refl, sym, ap, ◌∙◌, subst, arith}
use Rattle.std.specs.Prelude.{All, nat_lt}
use Rattle.std.specs.List.{AllByRecursion}
use Rattle.std.specs.Option.{option_map, option_or}
use Rattle.std.proofs.lemmas.List.Elements.{All-nil, All-append}
use Rattle.std.proofs.lemmas.List.Sums.{sum_by-cons, sum_by-append}
use Rattle.std.proofs.lemmas.Option.{same_Some, some_pair_parts, get_or_from_slice_get, slice_get_within}
use Rattle.tx_tree.specs.declared.places.Place.{Place}
use Rattle.tx_doc.specs.declared.buffer.Buffer.{Buffer}
use Rattle.tx_units.specs.Units.{units}
use Rattle.tx_items.specs.declared.drawing.Item.{Item}
use Rattle.tx_items.specs.declared.drawing.Paragraph.{Paragraph}
use Rattle.tx_items.specs.Cells.{item_cells, cells_across}
use Rattle.tx_layout.specs.declared.layout.Line.{Line}
use Rattle.tx_layout.specs.Shapes.{IsShape}
use Rattle.tx_view_form.specs.Outcomes.{beginning}
use Rattle.tx_view_form.specs.Views.{UnitView, AreLines, WideView, IsView}
use Rattle.tx_view_form.specs.Cells.{row_in}
use Rattle.tx_moves.specs.Rows.{start_place, stop_place, has_place, Extent, begun_in, ended_in, bare_in}
use Rattle.tx_moves.specs.Rows.{first_in, begun_at, ended_at, bare_at, row_of, IsInUnit}
use Rattle.tx_moves.proofs.Finding.{IsMarked, marked, IsFoundIn, found_in, IsOnLines, IsFoundAt, found_at}
use Rattle.tx_moves.proofs.Covering.{in_lines, IsBare, bared, bare_on_lines}
use Rattle.tx_moves.proofs.Parted.{IsParted, parted}
use Rattle.tx_moves.proofs.Stopping.{IsLaid, all_laid}

-- no line reaches beyond the page
abbrev pub Narrow : ℕ → Line → Type 0
Narrow width line = line.indent + cells_across line.items ≤ width

abbrev pub OnPage : Type 0
OnPage =
    (p : Paragraph) (width : ℕ) (lines : List Line) → IsShape p width lines
    → All (λ line. line.indent + cells_across line.items ≤ width) lines

-- what was found in a unit: its place begins with the unit's path, and it is within a page if the lines are
record IsHeld (at : Place) (path : List ℕ) (lines : List Line) (e : Extent) : Type 0 where
  more : List ℕ
  below : at.path ≡ path ++ more
  in_order : e.from ≤ e.to
  within : (width : ℕ) → All (Narrow width) lines → e.to ≤ width

item_held : (at : Place) (path more : List ℕ) (test : Item → Bool) (lines : List Line) (e : Extent)
    → IsFoundIn test lines e → at.path ≡ path ++ more → IsHeld at path lines e
item_held at path more test lines e on below =
    let ends = on.ends in
    record {
      more = more;
      below = below;
      in_order = omega arith;
      within =
          λ width narrow.
          let line : Line = on.line in
          let fits : line.indent + cells_across line.items ≤ width =
          subst (Narrow width) (get_or_from_slice_get lines e.row line line on.there)
          (narrow e.row line (slice_get_within lines e.row line on.there)) in
          let begins = on.begins in
          let all = ap cells_across on.are in
          let sums = sum_by-append item_cells on.front (on.item ∷ on.back) in
          let rest = sum_by-cons item_cells on.item on.back in
          omega arith;
    }

begun_held : (at : Place) (path : List ℕ) (lines : List Line) (e : Extent) → begun_in at path lines ≡ Some e
    → IsHeld at path lines e
begun_held at path lines e h =
    let test : Item → Bool = has_place (start_place path) at in
    let on : IsFoundIn test lines e = found_in test lines e h in
    let mark : IsMarked (start_place path) at on.item = marked (start_place path) at on.item on.passes in
    item_held at path mark.mark.origin test lines e on (ap (λ p. p.path) mark.is)

ended_held : (at : Place) (path : List ℕ) (lines : List Line) (e : Extent) → ended_in at path lines ≡ Some e
    → IsHeld at path lines e
ended_held at path lines e h =
    let test : Item → Bool = has_place (stop_place path) at in
    let on : IsFoundIn test lines e = found_in test lines e h in
    let mark : IsMarked (stop_place path) at on.item = marked (stop_place path) at on.item on.passes in
    item_held at path mark.mark.origin test lines e on (ap (λ p. p.path) mark.is)

bare_held : (at : Place) (path : List ℕ) (lines : List Line) (e : Extent) → bare_in at path lines ≡ Some e
    → IsHeld at path lines e
bare_held at path lines e h =
    let bare : IsBare at path lines e = bared at path lines e h in
    let from = bare.from in
    let to = bare.to in
    record {
      more = [];
      below = ap (λ p. p.path) bare.is ∙ sym (append-nil path);
      in_order = omega arith;
      within =
          λ width narrow.
          let line : Line = bare.line in
          let fits : line.indent + cells_across line.items ≤ width =
          subst (Narrow width) (get_or_from_slice_get lines e.row line line bare.there)
          (narrow e.row line (slice_get_within lines e.row line bare.there)) in
          omega arith;
    }

-- ---- all units

abbrev Holds : (List ℕ → List Line → Option Extent) → Place → Type 0
Holds find at = (path : List ℕ) (lines : List Line) (e : Extent) → find path lines ≡ Some e → IsHeld at path lines e

record IsBound (xs : List UnitView) (at : Place) (e : Extent) : Type 0 where
  unit : IsInUnit xs at e.row
  in_order : e.from ≤ e.to
  within : (width : ℕ) → AllByRecursion (λ x. All (Narrow width) x.lines) xs → e.to ≤ width

row_unit : (R : UnitView → Type 0) (xs : List UnitView) (r i : ℕ) (x : UnitView) → AllByRecursion R xs
    → row_in xs r ≡ Some (x, i) → R x
row_unit R [] r i x all e = absurd cc
row_unit R (y ∷ ys) r i x all e =
    pick (nat_lt r (length y.lines)) e (row_unit R ys (r - length y.lines) i x all.1)
  where
    pick : (b : Bool) → cond b (Some (y, r)) (row_in ys (r - length y.lines)) ≡ Some (x, i)
        → (row_in ys (r - length y.lines) ≡ Some (x, i) → R x) → R x
    pick true k more = subst R (some_pair_parts y x r i k).0 all.0
    pick false k more = more k

bound : (find : List ℕ → List Line → Option Extent) (at : Place) → IsOnLines find → Holds find at
    → (xs : List UnitView) (e : Extent) → first_in find xs ≡ Some e → IsBound xs at e
bound find at low holds xs e h =
    let found : IsFoundAt find xs e = found_at find low xs e h in
    let held : IsHeld at found.path found.unit.lines found.inner =
    holds found.path found.unit.lines found.inner found.found in
    let from = found.from in
    let to = found.to in
    let order = held.in_order in
    record {
      unit = record {
        unit = found.unit;
        number = found.inner.row;
        path = found.path;
        more = held.more;
        there = found.there;
        has_path = found.has_path;
        is = held.below;
      };
      in_order = omega arith;
      within =
          λ width all.
          let high = held.within width
          (row_unit (λ x. All (Narrow width) x.lines) xs e.row found.inner.row found.unit all found.there) in
          omega arith;
    }

record IsRowBound (xs : List UnitView) (at : Place) (p : ℕ × ℕ) : Type 0 where
  unit : IsInUnit xs at p.0
  within : (width : ℕ) → AllByRecursion (λ x. All (Narrow width) x.lines) xs → p.1 ≤ width

row_bound : (xs : List UnitView) (at : Place) (p : ℕ × ℕ) → row_of xs at ≡ Some p → IsRowBound xs at p
row_bound xs at p h = by (begun_at xs at) refl (ended_at xs at) refl (bare_at xs at) refl h
  where
    to_start : (e : Extent) → IsBound xs at e → IsRowBound xs at (e.row, e.from)
    to_start e b =
        let order = b.in_order in
        record { unit = b.unit; within = λ width all. let high = b.within width all in omega arith }

    by : (o : Option Extent) → begun_at xs at ≡ o → (q : Option Extent) → ended_at xs at ≡ q → (s : Option Extent)
        → bare_at xs at ≡ s
        → option_or (option_map (λ e. (e.row, e.from)) o)
        (option_or (option_map (λ e. (e.row, e.to)) q) (option_map (λ e. (e.row, e.from)) s)) ≡ Some p
        → IsRowBound xs at p
    by (Some e) i q j s k same =
        let b : IsBound xs at e =
        bound (begun_in at) at (λ path lines. in_lines (has_place (start_place path) at) lines) (begun_held at) xs e
        i in
        subst (IsRowBound xs at) (same_Some (e.row, e.from) p same) (to_start e b)
    by None i (Some e) j s k same =
        let b : IsBound xs at e =
        bound (ended_in at) at (λ path lines. in_lines (has_place (stop_place path) at) lines) (ended_held at) xs e j in
        subst (IsRowBound xs at) (same_Some (e.row, e.to) p same) (record { unit = b.unit; within = b.within })
    by None i None j (Some e) k same =
        let b : IsBound xs at e = bound (bare_in at) at (bare_on_lines at) (bare_held at) xs e k in
        subst (IsRowBound xs at) (same_Some (e.row, e.from) p same) (to_start e b)
    by None i None j None k same = absurd cc

pub row_in_unit : (xs : List UnitView) (at : Place) (p : ℕ × ℕ) → row_of xs at ≡ Some p → IsInUnit xs at p.0
row_in_unit xs at p h = let b : IsRowBound xs at p = row_bound xs at p h in b.unit

-- ---- the width of a page

lines_narrow : OnPage → (width : ℕ) (ps : List Paragraph) (lines : List Line) → AreLines width ps lines
    → All (Narrow width) lines
lines_narrow page width [] lines h =
    let none : lines ≡ [] = parted width [] lines h in
    subst (All (Narrow width)) (sym none) (All-nil (Narrow width))
lines_narrow page width (p ∷ ps) lines h =
    let parts : IsParted width p ps lines = parted width (p ∷ ps) lines h in
    subst (All (Narrow width)) (sym parts.is)
    (All-append (Narrow width) parts.own parts.others (page p width parts.own parts.shape)
    (lines_narrow page width ps parts.others parts.behind))

pub units_narrow : OnPage → (width : ℕ) (xs : List UnitView) → AllByRecursion (IsLaid width) xs
    → AllByRecursion (λ x. All (Narrow width) x.lines) xs
units_narrow page width [] h = tt
units_narrow page width (x ∷ xs) h =
    (lines_narrow page width x.paragraphs x.lines h.0, units_narrow page width xs h.1)

pub row_within : OnPage → (buffers : List Buffer) (width height : ℕ) (v : WideView) (at : Place) (p : ℕ × ℕ)
    → IsView buffers width height v → row_of v.units at ≡ Some p → p.1 ≤ width
row_within page buffers width height v at p h e =
    let b : IsRowBound v.units at p = row_bound v.units at p e in
    b.within width (units_narrow page width v.units (all_laid width beginning (units buffers) v.units h.shown))

pub cluster_within : OnPage → (buffers : List Buffer) (width height : ℕ) (v : WideView) (at : Place) (e : Extent)
    → IsView buffers width height v → begun_at v.units at ≡ Some e → e.to ≤ width
cluster_within page buffers width height v at e h k =
    let b : IsBound v.units at e =
    bound (begun_in at) at (λ path lines. in_lines (has_place (start_place path) at) lines) (begun_held at) v.units e
    k in
    b.within width (units_narrow page width v.units (all_laid width beginning (units buffers) v.units h.shown))
