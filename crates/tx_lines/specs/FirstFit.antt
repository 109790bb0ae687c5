-- First-fit, as a relation between pieces and finished lines.
use Rattle.std.specs.Prelude.{◌≡◌, ℕ, zero, suc, ◌+◌, ◌<◌, ◌≤◌, List, [], ◌∷◌}
use Rattle.std.specs.Prelude.{length, sum_by, Some, slice_get, slice_range}
use Rattle.tx_lines.specs.declared.cut.Cut.{Cut}
use Rattle.tx_lines.specs.declared.first_fit.Piece.{Piece}
use Rattle.tx_lines.specs.Cuts.{Partitions}

-- a width that a line may have, in cells
abbrev pub IsWidth : ℕ → Type 0
IsWidth width = (10 ≤ width) × (width ≤ 500)

-- the cells that pieces take side by side: their own, and the spaces before each of them but the first
abbrev pub cells_of : List Piece → ℕ
cells_of [] = 0
cells_of (piece ∷ others) = piece.cells + sum_by (λ other. other.before + other.cells) others

-- the cells of a line that holds the pieces from one place up to another
abbrev pub line_cells : List Piece → ℕ → ℕ → ℕ
line_cells pieces from to = cells_of (slice_range pieces from to)

-- the width of the line at a place: only the first line has the first width
abbrev pub width_of : ℕ → ℕ → ℕ → ℕ
width_of first later zero = first
width_of first later (suc k) = later

-- the finished lines are those of first-fit
pub record IsFirstFit (pieces : List Piece) (first later : ℕ) (lines : List Cut) : Type 0 where
  -- the lines in order hold the pieces, each once and in order, and no line is empty
  pub in_order : Partitions lines 0 (length pieces)
  -- what is on a line has at most the line's width
  pub fits : (k : ℕ) (line : Cut) → slice_get lines k ≡ Some line →
      line_cells pieces line.from line.to ≤ width_of first later k
  -- the first piece of the next line, with the spaces before it, would not have fitted on the line
  pub full : (k : ℕ) (line next : Cut) → slice_get lines k ≡ Some line → slice_get lines (k + 1) ≡ Some next →
      width_of first later k < line_cells pieces line.from (next.from + 1)
