-- Rows, columns and pages of a view have numbers of 32 bits.
use Rattle.std.proofs.Common.{◌≡◌, ℕ, zero, suc, ◌+◌, ◌<◌, ◌≤◌, ◌^◌, Bool, true, false, List, [], ◌∷◌, length, map}
use Rattle.std.proofs.Common.{get_or, Option, Some, None, refl, sym, ap, ap₂, ◌∙◌, subst, arith}
use Rattle.std.specs.List.{All, AllByRecursion, position}
use Rattle.std.specs.Option.{option_map}
use Rattle.std.proofs.lemmas.List.{length-map}
use Rattle.std.proofs.lemmas.List.Elements.{All-nil, All-get_or, All-weaker, All-from_recursion}
use Rattle.tx_tree.specs.declared.places.Place.{Place}
use Rattle.tx_lines.specs.declared.cut.Cut.{Cut}
use Rattle.tx_units.specs.Units.{units}
use Rattle.tx_layout.specs.declared.layout.Line.{Line}
use Rattle.tx_layout.specs.Paging.{PagesFrom}
use Rattle.tx_view_form.specs.Outcomes.{beginning}
use Rattle.tx_view_form.specs.Views.{UnitView, lines_of}
use Rattle.tx_moves.specs.Rows.{row_of}
use Rattle.tx_moves.proofs.Bounding.{Narrow, OnPage, units_narrow}
use Rattle.tx_moves.proofs.Stopping.{all_laid}
use Rattle.tx_unit_layout.specs.Views.{unit_view, IsReadable}
use Rattle.tx_unit_layout.specs.declared.shown.Shown.{Shown}
use Rattle.tx_view.specs.declared.view.View.TheInside.{Inside}
use Rattle.tx_view.specs.Ends.{IsNarrow, IsDrawable, AreDrawable}
use Rattle.tx_view.specs.Near.{is_above}
use Rattle.tx_view.specs.Units.{unit_views, row_counts, IsBelow}
use Rattle.tx_view.specs.WholeViews.{IsKept}
use Rattle.tx_view.proofs.EndsFound.{further}
use Rattle.tx_view.proofs.Numbering.{sums_length}
use Rattle.tx_view.proofs.RowAlone.{row_by_unit, rows_before, row_within}
use Rattle.tx_view.proofs.UnitRows.{sums_fit}

-- ---- columns

abbrev AreNarrow : Shown → Type 0
AreNarrow x = All IsNarrow (unit_view x).lines

narrow_shown : (width : ℕ) → width ≤ 500 → (xs : List Shown)
    → AllByRecursion (λ u. All (Narrow width) u.lines) (unit_views xs) → AllByRecursion AreNarrow xs
narrow_shown width most [] h = tt
narrow_shown width most (x ∷ xs) h = (
  All-weaker (Narrow width) IsNarrow (λ l low. omega (arith, low, most)) (unit_view x).lines h.0,
  narrow_shown width most xs h.1,
)

kept_narrow : (v : Inside) → OnPage → IsKept v → All AreNarrow v.units.items
kept_narrow v page k = by v.fresh refl
  where
    by : (b : Bool) → v.fresh ≡ b → All AreNarrow v.units.items
    by true e =
        All-from_recursion AreNarrow v.units.items
        (narrow_shown v.width k.most_width v.units.items
        (units_narrow page v.width (unit_views v.units.items)
        (all_laid v.width beginning (units v.buffers.items) (unit_views v.units.items) (k.fresh e).shown)))
    by false e = subst (All AreNarrow) (sym (k.hidden e)) (All-nil AreNarrow)

pub kept_drawable : (v : Inside) → OnPage → IsKept v → length (lines_of (unit_views v.units.items)) < 2 ^ 32
    → AreDrawable v.units.items v.paged.rows.items
kept_drawable v page k few = record {
  firsts_are = k.rows;
  readable = k.readable;
  below = k.below;
  apart = k.apart;
  narrow = kept_narrow v page k;
  few = few;
}

-- ---- one unit of these

pub unit_drawable : (xs : List Shown) (firsts : List ℕ) (k : ℕ) (x : Shown) → AreDrawable xs firsts
    → k < length xs → x ≡ get_or xs k x → IsDrawable x
unit_drawable xs firsts k x all lt is =
    let reads : IsReadable x = subst IsReadable (sym is) (All-get_or IsReadable xs k x lt all.readable) in
    record {
      short = reads.short;
      below = subst IsBelow (sym is) (All-get_or IsBelow xs k x lt all.below);
      narrow = subst AreNarrow (sym is) (All-get_or AreNarrow xs k x lt all.narrow);
      few = omega (arith, sums_fit (λ (u : UnitView). u.lines) xs k x lt is, all.few);
    }

-- the row of a place by the unit that is above it, which is unit k
module _ (xs : List Shown) (firsts : List ℕ) (at : Place) (k : ℕ) (x : Shown) (all : AreDrawable xs firsts)
    (found : position (λ y. is_above y.path at) xs ≡ Some k) (lt : k < length xs) (is : x ≡ get_or xs k x)
    (r : Option (ℕ × ℕ)) (alone : r ≡ row_of (unit_view x ∷ []) at) where
  row_is : row_of (unit_views xs) at ≡ option_map (further (get_or firsts k 0)) r
  row_is =
      row_by_unit xs at k x all.apart found lt is
      ∙ ap₂ (λ n o. option_map (further n) o) (sym (rows_before firsts xs k all.firsts_are (omega (arith, lt))))
      (sym alone)

  pub row_none : r ≡ None → None ≡ row_of (unit_views xs) at
  row_none e = sym (row_is ∙ ap (option_map (further (get_or firsts k 0))) e)

  pub row_some : (row column : ℕ) → r ≡ Some (row, column)
      → Some (get_or firsts k 0 + row, column) ≡ row_of (unit_views xs) at
  row_some row column e = sym (row_is ∙ ap (option_map (further (get_or firsts k 0))) e)

  pub row_fits : (row column : ℕ) → r ≡ Some (row, column) → get_or firsts k 0 + row < 2 ^ 32
  row_fits row column e =
      omega (
        arith,
        row_within (unit_views xs) at (get_or firsts k 0 + row, column) (sym (row_some row column e)),
        all.few,
      )

pub firsts_many : (xs : List Shown) (firsts : List ℕ) → AreDrawable xs firsts → length firsts ≡ length xs + 1
firsts_many xs firsts all =
    omega (
      arith,
      ap length all.firsts_are,
      sums_length 0 (row_counts (unit_views xs)),
      length-map (unit_views xs) (λ (u : UnitView). length u.lines),
      length-map xs unit_view,
    )

-- ---- pages

-- each page has a row
pages_few : (lines : List Line) (height at : ℕ) (pages : List Cut) → PagesFrom lines height at pages
    → at + length pages ≤ length lines
pages_few lines height at [] h = omega (arith, h)
pages_few lines height at (page ∷ pages) h =
    omega (arith, h.0, h.1.some, pages_few lines height page.to pages h.2)

pub kept_pages : (v : Inside) → IsKept v → length (lines_of (unit_views v.units.items)) < 2 ^ 32
    → length v.paged.pages.items < 2 ^ 32
kept_pages v k few = by v.fresh refl
  where
    by : (b : Bool) → v.fresh ≡ b → length v.paged.pages.items < 2 ^ 32
    by true e =
        omega (
          arith,
          few,
          pages_few (lines_of (unit_views v.units.items)) v.height 0 v.paged.pages.items (k.fresh e).paged,
        )
    by false e = omega (arith, ap length (k.no_pages e))
