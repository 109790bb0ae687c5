-- Of each row, the path of the part that shows it, from nothing.
use Rattle.std.specs.Prelude.{◌≡◌, ℕ, List, [], ◌∷◌, ◌++◌, map, length, replicate, if◌then◌else◌}
use Rattle.tx_units.specs.declared.kinds.Unit.{Unit as DocUnit}
use Rattle.tx_layout.specs.declared.layout.Line.{Line}
use Rattle.tx_view_form.specs.Outcomes.{Moment, behind}
use Rattle.tx_view_form.specs.Started.{attributes_of}
use Rattle.tx_view_form.specs.Views.{UnitView, AreLines}
use Rattle.tx_part_items.specs.ShownParts.{ShownPart, own_paragraphs}
use Rattle.tx_bridge.specs.Entries.{outcome_of}
use Rattle.tx_bridge.specs.PartsKept.{fresh_parts}
use Rattle.tx_unit_layout.specs.LaidAts.{is_by_parts, shown_parts_of}
use Rattle.tx_view.specs.Costs.{entry_at}

-- for each line of parts, the path of its part
pub data AreLineParts (width : ℕ) : List ShownPart → List (List ℕ) → Type 0 where
  no_parts : AreLineParts width [] []
  part_then : (p : ShownPart) (ps : List ShownPart) (own : List Line) (others : List (List ℕ))
      → AreLines width (own_paragraphs p) own → AreLineParts width ps others
      → AreLineParts width (p ∷ ps) (map (λ line. p.path) own ++ others)

-- the parts by which a unit that is evaluated at this moment is laid out, if it is laid out by its parts
abbrev pub shown_parts_at : Moment → DocUnit → List ShownPart
shown_parts_at m u =
    if is_by_parts (entry_at m u) then shown_parts_of (attributes_of m.env) (entry_at m u) (fresh_parts m u) else []

-- Of each row of a unit that shows so, the path of the part that shows it. After the rows of its parts come those that
-- it has besides, each with an empty path.
pub record AreUnitRowParts (width : ℕ) (m : Moment) (u : DocUnit) (x : UnitView) (rows : List (List ℕ)) : Type 0 where
  pub of_parts : List (List ℕ)
  pub are : AreLineParts width (shown_parts_at m u) of_parts
  pub others : ℕ
  pub is : rows ≡ of_parts ++ replicate others []
  pub as_many : length rows ≡ length x.lines

-- the paths of the rows of all units, from a moment on
pub data AreRowParts (width : ℕ) : Moment → List DocUnit → List UnitView → List (List ℕ) → Type 0 where
  no_units : (m : Moment) → AreRowParts width m [] [] []
  unit_then : (m : Moment) (u : DocUnit) (us : List DocUnit) (x : UnitView) (xs : List UnitView)
      (own others : List (List ℕ)) → AreUnitRowParts width m u x own
      → AreRowParts width (behind m (outcome_of m u)) us xs others
      → AreRowParts width m (u ∷ us) (x ∷ xs) (own ++ others)
