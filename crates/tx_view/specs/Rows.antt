-- Where rows and errors are among units.
use Rattle.std.specs.Prelude.{◌≡◌, ℕ, ◌<◌, List, length, map, slice_get, slice_index_or, Option, Some, None}
use Rattle.std.specs.List.{flat_map}
use Rattle.tx_view_form.specs.Views.{lines_of}
use Rattle.tx_view_form.specs.Errors.{errors_of}
use Rattle.tx_view_form.specs.Cells.{row_in}
use Rattle.tx_view.specs.Units.{unit_views}
use Rattle.tx_unit_layout.specs.Stretches.{stretches, line_parts}
use Rattle.tx_unit_layout.specs.Views.{unit_view}
use Rattle.tx_unit_layout.specs.declared.shown.Shown.{Shown}

-- for each row of a unit, the path from the unit's tree of the part that shows it, and an empty one where none does
abbrev pub unit_row_parts : Shown → List (List ℕ)
unit_row_parts x = flat_map line_parts (stretches x)

abbrev pub row_parts : List Shown → List (List ℕ)
row_parts xs = flat_map unit_row_parts xs

-- this unit has the row, under this number
pub record HasRow (xs : List Shown) (r : ℕ) (x : Shown) (k : ℕ) : Type 0 where
  pub row : row_in (unit_views xs) r ≡ Some (unit_view x, k)
  pub within : k < length (unit_view x).lines
  pub line : slice_get (lines_of (unit_views xs)) r ≡ slice_get (unit_view x).lines k
  pub part : slice_get (row_parts xs) r ≡ slice_get (unit_row_parts x) k

abbrev pub IsRowOfUnit : List Shown → ℕ → Option (ℕ × ℕ) → Type 0
IsRowOfUnit xs r None = (row_in (unit_views xs) r ≡ None) × (slice_get (lines_of (unit_views xs)) r ≡ None)
IsRowOfUnit xs r (Some p) = (p.0 < length xs) × ((d : Shown) → HasRow xs r (slice_index_or xs p.0 d) p.1)

-- this unit has the error, under this number
pub record HasError (xs : List Shown) (r : ℕ) (x : Shown) (k : ℕ) : Type 0 where
  pub within : k < length x.errors.items
  pub error : slice_get (errors_of (unit_views xs)) r ≡ slice_get (map (λ e. (x.path, e)) x.errors.items) k

abbrev pub IsError : List Shown → ℕ → Option (ℕ × ℕ) → Type 0
IsError xs r None = slice_get (errors_of (unit_views xs)) r ≡ None
IsError xs r (Some p) = (p.0 < length xs) × ((d : Shown) → HasError xs r (slice_index_or xs p.0 d) p.1)
