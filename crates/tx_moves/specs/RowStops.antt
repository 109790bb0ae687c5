-- To which place a vertical move goes.
use Rattle.std.specs.Prelude.{◌≡◌, ℕ, ◌≤◌, nat_lt, Bool, false, List, [], ◌∷◌, take, Option, Some, None}
use Rattle.std.specs.Prelude.{option_and_then, slice_get, if◌then◌else◌}
use Rattle.tx_tree.specs.declared.places.Place.{Place}
use Rattle.tx_layout.specs.declared.layout.Line.{Line}
use Rattle.tx_view_form.specs.Views.{UnitView}
use Rattle.tx_view_form.specs.Cells.{item_number, row_in}
use Rattle.tx_view_form.specs.Positions.{Mark, marks_of, place_on}
use Rattle.tx_moves.specs.Rows.{whole_place, start_place, stop_place, row_of}

-- the place at a column of a row, by the clusters of this row alone
abbrev pub place_alone : List ℕ → Line → ℕ → Place
place_alone path line goal = whole_place (place_on path [] line [] goal)

-- what is drawn is on a row after this one
abbrev pub is_past : ℕ → Option (ℕ × ℕ) → Bool
is_past r None = false
is_past r (Some p) = nat_lt r p.0

-- the start of the last of some clusters, or another place where there is none
abbrev pub last_start : List ℕ → Place → List Mark → Place
last_start path other [] = other
last_start path other (m ∷ ms) = last_start path (start_place path m) ms

-- the end of a row's last cluster may be the start of the first on the next row, and is drawn there
abbrev pub stop_alone : List UnitView → ℕ → List ℕ → Line → ℕ → Place
stop_alone xs r path line goal =
    if is_past r (row_of xs (place_alone path line goal))
    then last_start path (place_alone path line goal) (marks_of (take (item_number line goal) line.items))
    else place_alone path line goal

abbrev pub stop_by : List Mark → Place → Option Place
stop_by [] at = None
stop_by (m ∷ ms) at = Some at

-- the place at a column of a row of a unit, where the unit has a path and the row has a mark
abbrev pub stop_in : List UnitView → ℕ → UnitView → ℕ → ℕ → Option Place
stop_in xs r x i goal =
    option_and_then
    (λ path.
    option_and_then (λ line. stop_by (marks_of line.items) (stop_alone xs r path line goal)) (slice_get x.lines i))
    x.path

-- The place on a row to which a vertical move goes, by the column that it keeps: the start of the cluster that covers
-- the column, else the end of the last cluster before it, else the start of the first. Where that end is drawn on a
-- later row, it is the start of that last cluster. None where the row has no mark.
abbrev pub stop_on : List UnitView → ℕ → ℕ → Option Place
stop_on xs r goal = option_and_then (λ p. stop_in xs r p.0 p.1 goal) (row_in xs r)

-- ---- what laws say of it

-- this line of a unit with this path is the row
pub record IsRowOf (xs : List UnitView) (r : ℕ) (path : List ℕ) (line : Line) : Type 0 where
  pub unit : UnitView
  pub number : ℕ
  pub there : row_in xs r ≡ Some (unit, number)
  pub has_path : unit.path ≡ Some path
  pub is : slice_get unit.lines number ≡ Some line

-- the place is drawn on this row or above
pub record IsDrawnUpTo (xs : List UnitView) (at : Place) (r : ℕ) : Type 0 where
  pub row : ℕ
  pub column : ℕ
  pub drawn : row_of xs at ≡ Some (row, column)
  pub up_to : row ≤ r

-- where a move goes that keeps a column after the last cluster of a row
abbrev pub end_on : List UnitView → ℕ → List ℕ → Mark → Place
end_on xs r path m =
    if is_past r (row_of xs (stop_place path m)) then start_place path m else stop_place path m
