-- On which page a row is.
use Rattle.std.specs.Prelude.{◌≡◌, ℕ, ◌≤◌, ◌<◌, nat_le, nat_lt, Bool, ◌&&◌, List, Option, Some, slice_get}
use Rattle.std.specs.List.{position}
use Rattle.tx_lines.specs.declared.cut.Cut.{Cut}

-- the row is between the ends of a page
abbrev pub holds_row : ℕ → Cut → Bool
holds_row r page = nat_le page.from r && nat_lt r page.to

-- the number of the page that a row is on
abbrev pub page_of : List Cut → ℕ → Option ℕ
page_of pages r = position (holds_row r) pages

-- the page of this number has the row between its ends
pub record IsOnPage (pages : List Cut) (r k : ℕ) : Type 0 where
  pub page : Cut
  pub there : slice_get pages k ≡ Some page
  pub from : page.from ≤ r
  pub before : r < page.to
