-- Cached parts that are in no unit.
use Rattle.std.specs.Prelude.{◌≡◌, ℕ, Bool, true, not, List, map, filter, Option, Some, None, option_and_then}
use Rattle.std.specs.Prelude.{slice_get}
use Rattle.std.specs.List.{AllByRecursion, IsDistinct}
use Rattle.std.specs.Str.{bytes_eq}
use Rattle.tx_tree.specs.WideTree.{WideTree}
use Rattle.tx_tree.specs.Paths.{subtree}
use Rattle.tx_exec_form.specs.Evaluated.{WideTrace}
use Rattle.tx_exec_form.specs.Laws.{Supports}
use Rattle.tx_parts.specs.Composed.{alone}
use Rattle.tx_parts.specs.Parts.{Stored}
use Rattle.tx_units.specs.declared.kinds.Unit.{Unit as DocUnit}
use Rattle.tx_walk.specs.Walked.{IsTidy}
use Rattle.tx_bridge.specs.declared.strays.Stray.{Stray as DoneStray}
use Rattle.tx_bridge.specs.HeldParts.{kept_part}
use Rattle.tx_bridge.specs.InPlace.{begins_path}
use Rattle.tx_bridge.specs.PartMoves.{NoneAbove}
use Rattle.tx_bridge.specs.PartsKept.{KeptParts, part_paths}

-- what is cached of a part, with its path in the document, and the tree there
pub record Stray : Type 0 where
  pub kept : Stored
  pub tree : WideTree

abbrev pub kept_strays : List Stray → KeptParts
kept_strays ss = map (λ s. s.kept) ss

-- ---- what is true of them

-- the trace supports the tree
pub record HoldsStray (s : Stray) : Type 0 where
  pub trace : WideTrace
  pub is : s.kept.trace ≡ Some trace
  pub supports : Supports trace (alone s.tree)

-- none is in a unit
abbrev pub AreOutside : List DocUnit → List Stray → Type 0
AreOutside us ss = AllByRecursion (λ s. NoneAbove s.kept.path us) ss

-- each trace supports its tree, no two have one path, and none is in a unit
pub record AreStrays (us : List DocUnit) (ss : List Stray) : Type 0 where
  pub hold : AllByRecursion HoldsStray ss
  pub distinct : IsDistinct bytes_eq (part_paths (kept_strays ss))
  pub outside : AreOutside us ss

-- the trees are in the document
abbrev pub StandAside : WideTree → List Stray → Type 0
StandAside t ss = AllByRecursion (λ s. subtree t s.kept.path ≡ Some s.tree) ss

-- ---- an edit inside one unit

-- the path, if there is one, doesn't begin with the place
abbrev pub is_beside : Option (List ℕ) → List ℕ → Bool
is_beside None place = true
is_beside (Some p) place = not (begins_path place p)

-- the path that the unit of number i has
abbrev pub path_at : ℕ → List DocUnit → Option (List ℕ)
path_at i us = option_and_then (λ u. u.path) (slice_get us i)

-- those whose trees don't hold the unit of number i
abbrev pub strays_beside : ℕ → List DocUnit → List Stray → List Stray
strays_beside i us ss = filter (λ s. is_beside (path_at i us) s.kept.path) ss

-- ---- the program's

abbrev pub stray_of : DoneStray → Stray
stray_of s = record { kept = kept_part s.part; tree = s.tree }

abbrev pub strays_in : List DoneStray → List Stray
strays_in ss = map stray_of ss

abbrev pub AreTidy : List DoneStray → Type 0
AreTidy ss = AllByRecursion (λ s. IsTidy s.part) ss
