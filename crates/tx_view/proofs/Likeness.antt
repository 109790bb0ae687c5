-- Pages of units of which one was laid out anew, with as many lines and errors.
use Rattle.std.proofs.Common.{◌≡◌, ℕ, zero, suc, ◌+◌, ◌<◌, List, [], ◌∷◌, ◌++◌, length, map, slice_set, Some, refl}
use Rattle.std.proofs.Common.{ap, sym, subst, ◌∙◌, arith}
use Rattle.std.proofs.lemmas.List.{map-append, map-set}
use Rattle.std.proofs.lemmas.List.Elements.{All-head, All-tail}
use Rattle.std.proofs.lemmas.Option.{same_Some}
use Rattle.std.specs.Prelude.{All, slice_get}
use Rattle.tx_layout.specs.declared.layout.Line.{Line}
use Rattle.tx_layout.specs.Paging.{Unmarked}
use Rattle.tx_view_form.specs.Views.{UnitView, lines_of}
use Rattle.tx_part_layout.proofs.PageEnds.{page_ends, same_pages}
use Rattle.tx_unit_layout.specs.Views.{unit_view}
use Rattle.tx_unit_layout.specs.declared.shown.Shown.{Shown}
use Rattle.tx_view.specs.Lone.{IsPaged, WerePages, IsGap, AreAlike, KeepPages}
use Rattle.tx_view.specs.Units.{unit_views, sums_from, row_counts, error_counts}
use Rattle.tx_view.specs.declared.lone.Lone.{Lone}

-- ---- which lines end a page

none_ends : (xs ys : List Line) → length xs ≡ length ys → All Unmarked xs → All Unmarked ys
    → page_ends xs ≡ page_ends ys
none_ends [] [] many h k = refl
none_ends [] (y ∷ ys) many h k = absurd (omega (arith, many))
none_ends (x ∷ xs) [] many h k = absurd (omega (arith, many))
none_ends (x ∷ xs) (y ∷ ys) many h k =
    ap (λ b. b ∷ page_ends xs) (All-head Unmarked x xs h ∙ sym (All-head Unmarked y ys k))
    ∙ ap (λ bs. y.page_end ∷ bs)
    (none_ends xs ys (omega (arith, many)) (All-tail Unmarked x xs h) (All-tail Unmarked y ys k))

ends_more : (xs ys : List Line) → page_ends (xs ++ ys) ≡ page_ends xs ++ page_ends ys
ends_more xs ys = map-append (λ (l : Line). l.page_end) xs ys

ends_with : (us : List UnitView) (i : ℕ) (u v : UnitView) → page_ends u.lines ≡ page_ends v.lines
    → page_ends (lines_of (slice_set us i u)) ≡ page_ends (lines_of (slice_set us i v))
ends_with [] i u v e = refl
ends_with (w ∷ us) zero u v e =
    ends_more u.lines (lines_of us) ∙ ap (λ bs. bs ++ page_ends (lines_of us)) e
    ∙ sym (ends_more v.lines (lines_of us))
ends_with (w ∷ us) (suc i) u v e =
    ends_more w.lines (lines_of (slice_set us i u)) ∙ ap (λ bs. page_ends w.lines ++ bs) (ends_with us i u v e)
    ∙ sym (ends_more w.lines (lines_of (slice_set us i v)))

-- ---- how many there are

first_sum : (n : ℕ) (ks : List ℕ) → slice_get (sums_from n ks) 0 ≡ Some n
first_sum n [] = refl
first_sum n (k ∷ ks) = refl

gap_from : (m : ℕ) (ks : List ℕ) (i n k before : ℕ) → slice_get (sums_from m ks) i ≡ Some before
    → slice_get (sums_from m ks) (i + 1) ≡ Some (before + n) → slice_get ks i ≡ Some k → k ≡ n
gap_from m [] i n k before first second at = cc
gap_from m (l ∷ ks) zero n k before first second at =
    omega (
      arith,
      same_Some m before first,
      same_Some (m + l) (before + n) (sym (first_sum (m + l) ks) ∙ second),
      same_Some l k at,
    )
gap_from m (l ∷ ks) (suc i) n k before first second at =
    let next : suc (i + 1) ≡ suc i + 1 = omega arith in
    gap_from (m + l) ks i n k before first (ap (slice_get (sums_from m (l ∷ ks))) next ∙ second) at

gap_is : (sums ks : List ℕ) (i n k : ℕ) → sums ≡ sums_from 0 ks → IsGap sums i n → slice_get ks i ≡ Some k → k ≡ n
gap_is sums ks i n k is g at =
    gap_from 0 ks i n k g.before (ap (λ s. slice_get s i) (sym is) ∙ g.first)
    (ap (λ s. slice_get s (i + 1)) (sym is) ∙ g.second) at

set_at : (h : UnitView → ℕ) (us : List UnitView) (i : ℕ) (u : UnitView) → i < length us
    → slice_get (map h (slice_set us i u)) i ≡ Some (h u)
set_at h [] i u inside = absurd (omega (arith, inside))
set_at h (w ∷ us) zero u inside = refl
set_at h (w ∷ us) (suc i) u inside = set_at h us i u (omega (arith, inside))

counts_with : (h : UnitView → ℕ) (us : List UnitView) (i : ℕ) (u v : UnitView) → h u ≡ h v
    → map h (slice_set us i u) ≡ map h (slice_set us i v)
counts_with h [] i u v e = refl
counts_with h (w ∷ us) zero u v e = ap (λ n. n ∷ map h us) e
counts_with h (w ∷ us) (suc i) u v e = ap (λ ns. h w ∷ ns) (counts_with h us i u v e)

-- ---- the pages

abbrev row_number : UnitView → ℕ
row_number u = length u.lines

abbrev error_number : UnitView → ℕ
error_number u = length u.errors

pages_with : (height : ℕ) (us : List UnitView) (l : Lone) (y : Shown) → AreAlike l y → WerePages height us l
    → IsPaged height (slice_set us l.unit (unit_view y)) l.paged
pages_with height us l y alike were =
    let i : ℕ = l.unit in
    let u : UnitView = were.former in
    let v : UnitView = unit_view y in
    let rows : length u.lines ≡ length v.lines =
    gap_is l.paged.rows.items (row_counts (slice_set us i u)) i (length v.lines) (length u.lines) were.paged.rows
    alike.lines (set_at row_number us i u were.there) in
    let errors : length u.errors ≡ length v.errors =
    gap_is l.paged.errors.items (error_counts (slice_set us i u)) i (length v.errors) (length u.errors)
    were.paged.errors alike.errors (set_at error_number us i u were.there) in
    record {
      pages =
          same_pages (lines_of (slice_set us i u)) (lines_of (slice_set us i v)) height 0 l.paged.pages.items
          (ends_with us i u v (none_ends u.lines v.lines rows (were.unmarked alike.unmarked) alike.still_unmarked))
          were.paged.pages;
      rows = were.paged.rows ∙ ap (sums_from 0) (counts_with row_number us i u v rows);
      errors = were.paged.errors ∙ ap (sums_from 0) (counts_with error_number us i u v errors);
    }

pub pages_stay : (xs : List Shown) (l : Lone) (y : Shown) → AreAlike l y → KeepPages l xs (slice_set xs l.unit y)
pages_stay xs l y alike = λ height were.
    subst (λ us. IsPaged height us l.paged) (sym (map-set unit_view xs l.unit y))
    (pages_with height (unit_views xs) l y alike were)
