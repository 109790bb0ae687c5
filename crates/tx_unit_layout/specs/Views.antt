-- What is shown of a unit, as a view has it.
use Rattle.std.specs.Prelude.{◌≡◌, [], ◌++◌, None, Some, All}
use Rattle.tx_items.specs.declared.attributes.Attrs.{Attrs}
use Rattle.tx_view_form.specs.Views.{UnitView}
use Rattle.tx_view_form.specs.Positions.{IsShort}
use Rattle.tx_part_layout.specs.LaidParts.{placed_paragraphs, placed_lines, AreBelow}
use Rattle.tx_unit_layout.specs.declared.shown.Shown.{Shown}

-- what its parts show in their places, and then what it shows besides
abbrev pub unit_view : Shown → UnitView
unit_view s = record {
  path = s.path;
  errors = s.errors.items;
  paragraphs = placed_paragraphs s.parts ++ s.paragraphs.items;
  lines = placed_lines s.parts ++ s.lines;
}

-- Only a unit with a path has lines, and the places of their clusters are short. Where the unit is laid out, its parts
-- have the numbers of their first lines.
pub record IsReadable (s : Shown) : Type 0 where
  pub placed : s.path ≡ None → (unit_view s).lines ≡ []
  pub short : All (λ line. All IsShort line.items) (unit_view s).lines
  pub short_items : All (λ p. All IsShort p.items) (unit_view s).paragraphs
  pub below : (a : Attrs) → s.laid ≡ Some a → AreBelow 0 s.parts
