-- The lines of the first of some paragraphs, and of those after it.
use Rattle.std.proofs.Common.{◌≡◌, ℕ, List, [], ◌∷◌, ◌++◌, refl}
use Rattle.tx_items.specs.declared.drawing.Paragraph.{Paragraph}
use Rattle.tx_layout.specs.declared.layout.Line.{Line}
use Rattle.tx_layout.specs.Shapes.{IsShape}
use Rattle.tx_view_form.specs.Views.{AreLines, no_lines, lines_then}

pub record IsParted (width : ℕ) (p : Paragraph) (ps : List Paragraph) (lines : List Line) : Type 0 where
  pub own : List Line
  pub others : List Line
  pub is : lines ≡ own ++ others
  pub shape : IsShape p width own
  pub behind : AreLines width ps others

abbrev pub Parts : ℕ → List Paragraph → List Line → Type 0
Parts width [] lines = lines ≡ []
Parts width (p ∷ ps) lines = IsParted width p ps lines

pub parted : (width : ℕ) (ps : List Paragraph) (lines : List Line) → AreLines width ps lines → Parts width ps lines
parted width ps lines no_lines = refl
parted width ps lines (lines_then p qs own others shape behind) =
    record { own = own; others = others; is = refl; shape = shape; behind = behind }
