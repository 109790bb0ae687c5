-- At which row and column a place of the document is drawn.
use Rattle.std.specs.Prelude.{◌≡◌, ℕ, ◌+◌, Bool, false, List, [], ◌∷◌, ◌++◌, length, Option, Some, None}
use Rattle.std.specs.Prelude.{option_and_then, if◌then◌else◌}
use Rattle.std.specs.Option.{option_map, option_map_or, option_or}
use Rattle.tx_tree.specs.SamePlaces.{same_place}
use Rattle.tx_tree.specs.declared.places.Place.{Place}
use Rattle.tx_origin.specs.RelativePlaces.{BasedPlace}
use Rattle.tx_items.specs.declared.drawing.Item.{Item}
use Rattle.tx_items.specs.Cells.{item_cells}
use Rattle.tx_layout.specs.declared.layout.Line.{Line}
use Rattle.tx_view_form.specs.Views.{UnitView}
use Rattle.tx_view_form.specs.Cells.{row_in}
use Rattle.tx_view_form.specs.Positions.{Mark, mark_of, marks_of, items_on, unit_place, whole_path}
use Rattle.tx_view_form.specs.Stops.{mark_place}

-- a place with its whole path
abbrev pub whole_place : BasedPlace → Place
whole_place p = record { path = whole_path p; offset = p.offset }

-- where the cluster of a mark begins and ends, in a unit with this path
abbrev pub start_place : List ℕ → Mark → Place
start_place path m = mark_place path m m.start

abbrev pub stop_place : List ℕ → Mark → Place
stop_place path m = mark_place path m m.stop

-- the item has a mark, and the mark this place
abbrev pub has_place : (Mark → Place) → Place → Item → Bool
has_place place at item = option_map_or (λ m. same_place at (place m)) (mark_of item) false

-- ---- where something is drawn

-- a row, and the columns from which and up to which it goes there
pub record Extent : Type 0 where
  pub row : ℕ
  pub from : ℕ
  pub to : ℕ

-- so many rows lower
abbrev pub lower : ℕ → Extent → Extent
lower n e = record e { row = n + e.row }

-- the first of some items that passes a test, where they begin at a column
abbrev pub extent_on : (Item → Bool) → ℕ → List Item → Option Extent
extent_on test from [] = None
extent_on test from (x ∷ xs) =
    if test x then Some (record { row = 0; from = from; to = from + item_cells x })
    else extent_on test (from + item_cells x) xs

-- the first item on some lines that passes a test
abbrev pub extent_in : (Item → Bool) → List Line → Option Extent
extent_in test [] = None
extent_in test (line ∷ lines) =
    option_or (extent_on test line.indent line.items) (option_map (lower 1) (extent_in test lines))

-- what is found in the first of some units in which there is something to be found
abbrev pub first_in : (List ℕ → List Line → Option Extent) → List UnitView → Option Extent
first_in find [] = None
first_in find (x ∷ xs) =
    option_or (option_and_then (λ path. find path x.lines) x.path)
    (option_map (lower (length x.lines)) (first_in find xs))

-- ---- where a place is drawn

-- the first cluster that begins at the place
abbrev pub begun_in : Place → List ℕ → List Line → Option Extent
begun_in at path lines = extent_in (has_place (start_place path) at) lines

-- the first cluster that ends at the place
abbrev pub ended_in : Place → List ℕ → List Line → Option Extent
ended_in at path lines = extent_in (has_place (stop_place path) at) lines

-- the first row of a unit that has no mark on a line, at its indent, where the place is the unit's
abbrev pub bare_by : List Mark → Place → List ℕ → List Line → Option Extent
bare_by (m ∷ ms) at path lines = None
bare_by [] at path [] = None
bare_by [] at path (line ∷ lines) =
    if same_place at (whole_place (unit_place path))
    then Some (record { row = 0; from = line.indent; to = line.indent }) else None

abbrev pub bare_in : Place → List ℕ → List Line → Option Extent
bare_in at path lines = bare_by (marks_of (items_on lines)) at path lines

abbrev pub begun_at : List UnitView → Place → Option Extent
begun_at xs at = first_in (begun_in at) xs

abbrev pub ended_at : List UnitView → Place → Option Extent
ended_at xs at = first_in (ended_in at) xs

abbrev pub bare_at : List UnitView → Place → Option Extent
bare_at xs at = first_in (bare_in at) xs

-- The row and the column at which a place is drawn: those of the first cluster that begins there. Else the column after
-- the first cluster that ends there. Else the indent of the first row of the unit.
abbrev pub row_of : List UnitView → Place → Option (ℕ × ℕ)
row_of xs at =
    option_or (option_map (λ e. (e.row, e.from)) (begun_at xs at))
    (option_or (option_map (λ e. (e.row, e.to)) (ended_at xs at))
    (option_map (λ e. (e.row, e.from)) (bare_at xs at)))

-- the row is one of the unit whose path is that of the place, or begins it
pub record IsInUnit (xs : List UnitView) (at : Place) (r : ℕ) : Type 0 where
  pub unit : UnitView
  pub number : ℕ
  pub path : List ℕ
  pub more : List ℕ
  pub there : row_in xs r ≡ Some (unit, number)
  pub has_path : unit.path ≡ Some path
  pub is : at.path ≡ path ++ more
