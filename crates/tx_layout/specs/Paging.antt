-- The pages of lines.
use Rattle.std.specs.Prelude.{◌≡◌, ℕ, ◌+◌, ◌-◌, ◌<◌, ◌≤◌, ◌⊎◌, true, false, List, [], ◌∷◌, length, All, slice_range}
use Rattle.tx_lines.specs.declared.cut.Cut.{Cut}
use Rattle.tx_layout.specs.declared.layout.Line.{Line}

abbrev pub EndsPage : Line → Type 0
EndsPage line = line.page_end ≡ true

abbrev pub Unmarked : Line → Type 0
Unmarked line = line.page_end ≡ false

-- a page has at most so many lines, of which only the last may be marked, and ends after a marked line, after so
-- many lines, or at the end of the lines
pub record IsPage (lines : List Line) (height : ℕ) (page : Cut) : Type 0 where
  pub some : page.from < page.to
  pub within : page.to ≤ length lines
  pub fits : page.to ≤ page.from + height
  pub unmarked : All Unmarked (slice_range lines page.from (page.to - 1))
  pub full : page.to < length lines →
      (page.to ≡ page.from + height) ⊎ All EndsPage (slice_range lines (page.to - 1) page.to)

-- from a place on the lines are on these pages, in order
abbrev pub PagesFrom : List Line → ℕ → ℕ → List Cut → Type 0
PagesFrom lines height at [] = at ≡ length lines
PagesFrom lines height at (page ∷ pages) =
    (page.from ≡ at) × IsPage lines height page × PagesFrom lines height page.to pages
