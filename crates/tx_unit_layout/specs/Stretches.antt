-- What is shown of a unit, stretch by stretch. Each gives its places from one path.
use Rattle.std.specs.Prelude.{ℕ, List, [], ◌∷◌, ◌++◌, map, Option, Some, None, refl}
use Rattle.std.specs.Coded.{Coded, code_by, coded×, coded_list, coded_ℕ}
use Rattle.tx_items.specs.contracts.drawing.Paragraph as one_paragraph
use Rattle.tx_items.specs.declared.drawing.Paragraph.{Paragraph}
use Rattle.tx_layout.specs.contracts.layout.Line as one_line
use Rattle.tx_layout.specs.declared.layout.Line.{Line}
use Rattle.tx_part_items.specs.ItemsUnder.{paragraph_under}
use Rattle.tx_part_layout.specs.LinesUnder.{line_under}
use Rattle.tx_part_layout.specs.declared.laid.PlacedPart.{PlacedPart}
use Rattle.tx_unit_layout.specs.declared.shown.Shown.{Shown}

-- paragraphs and their lines, and the path, from the tree of the unit, from which their places are given
pub record WideStretch : Type 0 where
  pub part : List ℕ
  pub paragraphs : List Paragraph
  pub lines : List Line

-- the stretch of a part
abbrev pub part_stretch : PlacedPart → WideStretch
part_stretch p = record { part = p.path; paragraphs = p.laid.value.paragraphs.items; lines = p.laid.value.lines }

-- what the unit shows besides
abbrev pub own_stretch : Shown → WideStretch
own_stretch s = record { part = []; paragraphs = s.paragraphs.items; lines = s.lines }

abbrev pub stretches : Shown → List WideStretch
stretches s = map part_stretch s.parts ++ own_stretch s ∷ []

-- as they are in the unit
abbrev pub stretch_paragraphs : WideStretch → List Paragraph
stretch_paragraphs s = map (paragraph_under s.part) s.paragraphs

abbrev pub stretch_lines : WideStretch → List Line
stretch_lines s = map (line_under s.part) s.lines

-- for each line of a unit, the path from which its places are given
abbrev pub line_parts : WideStretch → List (List ℕ)
line_parts s = map (λ line. s.part) s.lines

-- the path of a part, and that of the unit's tree where there is none
abbrev pub part_or_root : Option (List ℕ) → List ℕ
part_or_root None = []
part_or_root (Some path) = path

-- ---- the code by which proofs tell them apart

abbrev pub coded_WideStretch : Coded WideStretch
coded_WideStretch =
    code_by (List ℕ × (List Paragraph × List Line))
    (coded× (coded_list coded_ℕ)
    (coded× (coded_list one_paragraph.the_row.coded) (coded_list one_line.the_row.coded)))
    (λ s. (s.part, (s.paragraphs, s.lines)))
    (λ c. record { part = c.0; paragraphs = c.1.0; lines = c.1.1 }) (λ _. refl)
