-- Where the lines of a unit are among its stretches.
use Rattle.std.specs.Prelude.{◌≡◌, ℕ, ◌+◌, ◌≤◌, ◌<◌, List, length, take, Some, slice_get, option_map}
use Rattle.std.specs.List.{flat_map}
use Rattle.tx_part_layout.specs.LinesUnder.{line_under}
use Rattle.tx_part_layout.specs.declared.laid.PlacedPart.{PlacedPart}
use Rattle.tx_unit_layout.specs.Stretches.{WideStretch, stretches, stretch_lines, line_parts}
use Rattle.tx_unit_layout.specs.Views.{unit_view}
use Rattle.tx_unit_layout.specs.declared.shown.Shown.{Shown}

-- the last part that begins in this line or above it
pub record IsPartAbove (ps : List PlacedPart) (line k : ℕ) : Type 0 where
  pub begins : (p : PlacedPart) → slice_get ps k ≡ Some p → p.above ≤ line
  pub next : (p : PlacedPart) → slice_get ps (k + 1) ≡ Some p → line < p.above

-- the line is in this stretch, under this number
pub record IsLineOf (x : Shown) (line : ℕ) (r : ℕ × ℕ) : Type 0 where
  pub stretch : WideStretch
  pub there : slice_get (stretches x) r.0 ≡ Some stretch
  pub within : r.1 < length stretch.lines
  pub number : line ≡ length (flat_map stretch_lines (take r.0 (stretches x))) + r.1
  pub is : slice_get (unit_view x).lines line ≡ option_map (line_under stretch.part) (slice_get stretch.lines r.1)
  pub part : slice_get (flat_map line_parts (stretches x)) line ≡ Some stretch.part
