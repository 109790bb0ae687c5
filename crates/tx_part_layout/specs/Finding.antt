-- What is found among the former layouts.
use Rattle.std.specs.Prelude.{◌≡◌, ℕ, true, false, List, Some, slice_get}
use Rattle.tx_walk.specs.declared.part.Part.{Part as DonePart}
use Rattle.tx_items.specs.declared.attributes.Attrs.{Attrs}
use Rattle.tx_part_layout.specs.declared.laid.PlacedPart.{PlacedPart}
use Rattle.tx_part_layout.specs.LaidParts.{before_at, is_reused}

-- the part of this number is the first at the path
pub record IsAt (old : List PlacedPart) (path : List ℕ) (i : ℕ) : Type 0 where
  pub part : PlacedPart
  pub there : slice_get old i ≡ Some part
  pub stands : part.path ≡ path
  pub is : before_at old path ≡ Some part.laid.value.before

-- the layout of this number is the part's, with these attributes before it
pub record IsReused (old : List PlacedPart) (d : DonePart) (a : Attrs) (i : ℕ) : Type 0 where
  pub part : PlacedPart
  pub there : slice_get old i ≡ Some part
  pub stands : part.path ≡ d.path
  pub kept : d.renewed ≡ false
  pub before : part.laid.value.before ≡ a
  pub is : is_reused old d a ≡ true
