-- Where each piece is narrow enough, some lines are first-fit.
use Rattle.std.proofs.Common.{◌≡◌, ℕ, zero, suc, ◌+◌, ◌-◌, ◌<◌, ◌≤◌, min, List, [], ◌∷◌, ◌++◌, length, get_or, refl}
use Rattle.std.proofs.Common.{subst, inl, inr, arith}
use Rattle.std.specs.Prelude.{All}
use Rattle.std.proofs.lemmas.Bool.{cases_lt}
use Rattle.tx_lines.specs.declared.cut.Cut.{Cut}
use Rattle.tx_lines.specs.declared.first_fit.Piece.{Piece}
use Rattle.tx_lines.specs.FirstFit.{line_cells, width_of, IsFirstFit}
use Rattle.tx_lines.proofs.Cells.{cells_of_one}
use Rattle.tx_lines.proofs.Filling.{FillsTo, min_width, fills_more, fills_all}

-- a line of this width that begins at a place ends there
record IsEnd (pieces : List Piece) (from width to : ℕ) : Type 0 where
  some : from < to
  within : to ≤ length pieces
  fits : line_cells pieces from to ≤ width
  full : to < length pieces → width < line_cells pieces from (to + 1)

-- a line that fits so far ends somewhere
ends : (left : ℕ) (pieces : List Piece) (from to width : ℕ) → to + left ≡ length pieces → from < to
    → line_cells pieces from to ≤ width → (end : ℕ) × IsEnd pieces from width end
ends zero pieces from to width e some fits =
    (to, record { some = some; within = omega arith; fits = fits; full = λ more. absurd (omega arith) })
ends (suc left) pieces from to width e some fits =
    elim (cases_lt width (line_cells pieces from (to + 1))) [
      | inl over ↦ (to, record { some = some; within = omega arith; fits = fits; full = λ more. over })
      | inr room ↦ ends left pieces from (to + 1) width (omega arith) (omega arith) room
    ]

-- lines so far go on to lines of all the pieces
goes_on : (left : ℕ) (pieces : List Piece) (first later from : ℕ) (lines : List Cut)
    → All (λ piece. piece.cells ≤ min first later) pieces → from ≤ length pieces → length pieces ≤ from + left
    → FillsTo pieces first later from lines → (all : List Cut) × IsFirstFit pieces first later all
goes_on zero pieces first later from lines narrow within few filled =
    let whole : from ≡ length pieces = omega arith in
    (lines, fills_all pieces first later lines (subst (λ end. FillsTo pieces first later end lines) whole filled))
goes_on (suc left) pieces first later from lines narrow within few filled =
    elim (cases_lt from (length pieces)) [
      | inl more ↦
          let nothing : Piece = record { before = 0; cells = 0 } in
          let width : ℕ = width_of first later (length lines) in
          let alone = cells_of_one pieces from nothing more in
          let own : (get_or pieces from nothing).cells ≤ min first later = narrow from nothing more in
          let fits : line_cells pieces from (from + 1) ≤ width =
          omega (arith, alone, own, min_width first later (length lines)) in
          let there : from + 1 + (length pieces - (from + 1)) ≡ length pieces = omega arith in
          let end = ends (length pieces - (from + 1)) pieces from (from + 1) width there (omega arith) fits in
          let line : Cut = record { from = from; to = end.0 } in
          let is = end.1 in
          let on = is.some in
          goes_on left pieces first later end.0 (lines ++ line ∷ []) narrow is.within (omega arith)
          (fills_more pieces first later width lines line filled refl is.some is.fits is.full)
      | inr none ↦
          let whole : from ≡ length pieces = omega arith in
          (lines, fills_all pieces first later lines (subst (λ end. FillsTo pieces first later end lines) whole filled))
    ]

nothing_filled : (pieces : List Piece) (first later : ℕ) → FillsTo pieces first later 0 []
nothing_filled pieces first later = record { in_order = refl; fits = λ k at e. cc; full = λ k at e. cc }

pub some_way : (pieces : List Piece) (first later : ℕ) → All (λ piece. piece.cells ≤ min first later) pieces
    → (lines : List Cut) × IsFirstFit pieces first later lines
some_way pieces first later narrow =
    goes_on (length pieces) pieces first later 0 [] narrow (omega arith) (omega arith)
    (nothing_filled pieces first later)
