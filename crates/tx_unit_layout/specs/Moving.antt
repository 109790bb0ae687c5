-- The layouts of parts are carried with them through an edit.
use Rattle.std.specs.Prelude.{ℕ, ◌+◌, ◌==◌, if◌then◌else◌, List, [], ◌∷◌, Option, Some, None, option_map}
use Rattle.std.specs.List.{cons_option}
use Rattle.tx_part_layout.specs.declared.laid.LaidPart.{LaidPart}
use Rattle.tx_part_layout.specs.declared.laid.PlacedPart.{PlacedPart}
use Rattle.tx_part_layout.specs.LaidParts.{put_to}

-- ---- in place

-- where parts of these numbers are afterwards; nowhere for one that isn't carried
abbrev pub PartPlaces : Type 0
PartPlaces = List (ℕ × Option (List ℕ))

-- The parts, whose numbers begin with i, as they are afterwards: those of these numbers at these places, and each other
-- one where it was. The numbers are in order.
abbrev pub put_along : ℕ → PartPlaces → List PlacedPart → List PlacedPart
put_along i [] ps = ps
put_along i (m ∷ ms) [] = []
put_along i (m ∷ ms) (p ∷ ps) =
    if m.0 == i then cons_option (option_map (λ path. put_to path p) m.1) (put_along (i + 1) ms ps)
    else p ∷ put_along (i + 1) (m ∷ ms) ps

-- ---- wherever in memory the layouts are

-- a part in its place
pub record WidePart : Type 0 where
  pub path : List ℕ
  pub above : ℕ
  pub laid : LaidPart

abbrev pub wide_part : PlacedPart → WidePart
wide_part p = record { path = p.path; above = p.above; laid = p.laid.value }

-- the part at another path
abbrev pub put_at : List ℕ → PlacedPart → WidePart
put_at path p = record { path = path; above = p.above; laid = p.laid.value }

-- The layouts of parts that are at these places afterwards. That of a part that is nowhere is dropped.
abbrev pub laid_by : List (Option (List ℕ)) → List PlacedPart → List WidePart
laid_by [] ps = []
laid_by (q ∷ qs) [] = []
laid_by (None ∷ qs) (p ∷ ps) = laid_by qs ps
laid_by (Some q ∷ qs) (p ∷ ps) = put_at q p ∷ laid_by qs ps
