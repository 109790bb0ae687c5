-- What comes before and after a line of a unit, by its stretch and its number there.
use Rattle.std.specs.Prelude.{◌≡◌, ℕ, ◌+◌, List, [], ◌++◌, take, drop, Some, slice_get, option_and_then}
use Rattle.std.specs.List.{flat_map}
use Rattle.std.specs.Option.{option_map_or}
use Rattle.tx_items.specs.declared.drawing.Drawn.{Drawn}
use Rattle.tx_layout.specs.declared.layout.Line.{Line}
use Rattle.tx_part_items.specs.ItemsUnder.{look_under}
use Rattle.tx_view_form.specs.Cells.{row_in}
use Rattle.tx_view_form.specs.Views.{UnitView}
use Rattle.tx_unit_layout.specs.Stretches.{stretches, stretch_lines}
use Rattle.tx_unit_layout.specs.declared.shown.Shown.{Shown}

-- the lines of the stretch of number k, as they are in the unit
abbrev pub lines_at : Shown → ℕ → List Line
lines_at x k = option_map_or stretch_lines (slice_get (stretches x) k) []

-- the lines of the unit above line i of the stretch of number k
abbrev pub lines_above : Shown → ℕ → ℕ → List Line
lines_above x k i = flat_map stretch_lines (take k (stretches x)) ++ take i (lines_at x k)

-- the lines of the unit below line i of the stretch of number k
abbrev pub lines_below : Shown → ℕ → ℕ → List Line
lines_below x k i = drop (i + 1) (lines_at x k) ++ flat_map stretch_lines (drop (k + 1) (stretches x))

-- a cluster that is deeper by a path
abbrev pub drawn_under : List ℕ → Drawn → Drawn
drawn_under base d = record d { look = look_under base d.look }

-- this is the path from which the places in row r are given: that of its unit, and that of the part below it
pub record IsBase (xs : List UnitView) (parts : List (List ℕ)) (r : ℕ) (base : List ℕ) : Type 0 where
  pub unit : List ℕ
  pub has_path : option_and_then (λ p. p.0.path) (row_in xs r) ≡ Some unit
  pub part : List ℕ
  pub has_part : slice_get parts r ≡ Some part
  pub is : base ≡ unit ++ part
