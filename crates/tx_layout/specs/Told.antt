-- The lines that a paginator has been given.
use Rattle.std.specs.Prelude.{◌≡◌, ℕ, ◌+◌, ◌<◌, ◌≤◌, List, ◌++◌, length, drop, All}
use Rattle.tx_lines.specs.declared.cut.Cut.{Cut}
use Rattle.tx_layout.specs.declared.layout.Line.{Line}
use Rattle.tx_layout.specs.declared.paging.Paginator.{Paginator}
use Rattle.tx_layout.specs.Paging.{Unmarked, PagesFrom}

-- how many lines were given
abbrev pub lines_told : Paginator → ℕ
lines_told p = p.count

-- These lines were given, for pages of this height. Whatever lines follow, the pages that have ended are the first of
-- all, and the lines after them are fewer than the height, with none that is the last of its page.
pub record HasTold (lines : List Line) (height : ℕ) (p : Paginator) : Type 0 where
  pub number : lines_told p ≡ length lines
  pub height_is : p.height ≡ height
  pub begun : p.from ≤ length lines
  pub short : length lines < p.from + height
  pub unmarked : All Unmarked (drop p.from lines)
  pub ended : (more : List Line) (later : List Cut) → PagesFrom (lines ++ more) height p.from later
      → PagesFrom (lines ++ more) height 0 (p.ended.items ++ later)
