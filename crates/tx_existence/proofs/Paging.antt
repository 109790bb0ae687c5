-- Lines have pages.
use Rattle.std.proofs.Common.{◌≡◌, ℕ, zero, suc, ◌+◌, ◌-◌, ◌<◌, ◌≤◌, inl, inr, List, [], ◌∷◌, length, get_or}
use Rattle.std.proofs.Common.{refl, subst, arith}
use Rattle.std.specs.Prelude.{slice_range, All}
use Rattle.std.proofs.lemmas.Bool.{cases_lt, cases_Bool}
use Rattle.tx_lines.specs.declared.cut.Cut.{Cut}
use Rattle.tx_layout.specs.declared.layout.Line.{Line}
use Rattle.tx_layout.specs.Shapes.{empty_line}
use Rattle.tx_layout.specs.Paging.{EndsPage, Unmarked, IsPage, PagesFrom}
use Rattle.tx_existence.proofs.Slices.{all_none, all_more, all_one}

abbrev line_at : List Line → ℕ → Line
line_at lines at = get_or lines at empty_line

abbrev cut : ℕ → ℕ → Cut
cut from to = record { from = from; to = to }

-- a page that begins at a place ends somewhere
ends : (left : ℕ) (lines : List Line) (height from to : ℕ) → to + left ≡ length lines → from < to
    → to ≤ from + height → All Unmarked (slice_range lines from (to - 1))
    → (end : ℕ) × IsPage lines height (cut from end)
ends zero lines height from to e some fits unmarked = (
  to,
  record {
    some = some;
    within = omega arith;
    fits = fits;
    unmarked = unmarked;
    full = λ more. absurd (omega arith);
  },
)
ends (suc left) lines height from to e some fits unmarked =
    let there : to - 1 < length lines = omega arith in
    elim (cases_Bool (line_at lines (to - 1)).page_end) [
      | inl marked ↦
          let end : to - 1 + 1 ≡ to = omega arith in
          let ended : All EndsPage (slice_range lines (to - 1) to) =
          subst (λ n. All EndsPage (slice_range lines (to - 1) n)) end
          (all_one EndsPage lines (to - 1) empty_line there marked) in (
            to,
            record {
              some = some;
              within = omega arith;
              fits = fits;
              unmarked = unmarked;
              full = λ more. inr ended;
            },
          )
      | inr plain ↦ elim (cases_lt to (from + height)) [
        | inl room ↦
            let end : to - 1 + 1 ≡ to + 1 - 1 = omega arith in
            let longer : All Unmarked (slice_range lines from (to + 1 - 1)) =
            subst (λ n. All Unmarked (slice_range lines from n)) end
            (all_more Unmarked lines from (to - 1) empty_line (omega arith) there unmarked plain) in
            ends left lines height from (to + 1) (omega arith) (omega arith) (omega arith) longer
        | inr full ↦ (
          to,
          record {
            some = some;
            within = omega arith;
            fits = fits;
            unmarked = unmarked;
            full = λ more. inl (omega arith);
          },
        )
      ]
    ]

some_page : (lines : List Line) (height from : ℕ) → 0 < height → from < length lines
    → (end : ℕ) × IsPage lines height (cut from end)
some_page lines height from high more =
    let left : from + 1 + (length lines - (from + 1)) ≡ length lines = omega arith in
    let none : from ≡ from + 1 - 1 = omega arith in
    ends (length lines - (from + 1)) lines height from (from + 1) left (omega arith) (omega arith)
    (subst (λ n. All Unmarked (slice_range lines from n)) none (all_none Unmarked lines from))

pages_from : (left : ℕ) (lines : List Line) (height at : ℕ) → 0 < height → at ≤ length lines
    → length lines ≤ at + left → (pages : List Cut) × PagesFrom lines height at pages
pages_from zero lines height at high within few = let end : at ≡ length lines = omega arith in ([], end)
pages_from (suc left) lines height at high within few =
    elim (cases_lt at (length lines)) [
      | inl more ↦
          let page = some_page lines height at high more in
          let is : IsPage lines height (cut at page.0) = page.1 in
          let some = is.some in
          let rest = pages_from left lines height page.0 high is.within (omega arith) in
          (cut at page.0 ∷ rest.0, (refl, is, rest.1))
      | inr past ↦ let end : at ≡ length lines = omega arith in ([], end)
    ]

pub some_paging : (lines : List Line) (height : ℕ) → 0 < height → (pages : List Cut) × PagesFrom lines height 0 pages
some_paging lines height high = pages_from (length lines) lines height 0 high (omega arith) (omega arith)
