-- What is true of cached parts.
use Rattle.std.specs.Prelude.{◌≡◌, ◌≤◌, ℕ, Bool, false, not, ◌&&◌, if◌then◌else◌, List, [], ◌∷◌, map}
use Rattle.std.specs.Prelude.{Option, Some, None, true}
use Rattle.std.specs.List.{AllByRecursion, IsDistinct}
use Rattle.std.specs.Str.{bytes_eq}
use Rattle.tx_tree.specs.WideTree.{WideTree}
use Rattle.tx_tree.specs.Paths.{subtree}
use Rattle.tx_exec_form.specs.declared.TheConstants.{MOST_LEVELS}
use Rattle.tx_exec_form.specs.Runs.{Before}
use Rattle.tx_exec_form.specs.Evaluated.{WideTrace}
use Rattle.tx_exec_form.specs.Laws.{Agrees, Supports}
use Rattle.tx_exec.specs.Outcomes.{wide_trace}
use Rattle.tx_parts.specs.Composed.{alone}
use Rattle.tx_parts.specs.Parts.{parts, Stored, stored_part}
use Rattle.tx_walk.specs.declared.part.Part.{Part as DonePart}
use Rattle.tx_walk.specs.Walked.{IsTidy, paths_of}
use Rattle.tx_units.specs.declared.kinds.Unit.{Unit as DocUnit}
use Rattle.tx_bridge.specs.Entries.{Kept}
use Rattle.tx_bridge.specs.PartsKept.{KeptParts, has_parts, part_paths}

abbrev pub kept_part : DonePart → Stored
kept_part p = record { path = p.path; trace = Some (wide_trace p.trace) }

abbrev pub kept_parts : List DonePart → KeptParts
kept_parts ps = map kept_part ps

abbrev pub flags_of_parts : List DonePart → List Bool
flags_of_parts ps = map (λ p. p.renewed) ps

-- the parts, none of which is marked as renewed
abbrev pub unmarked_part : DonePart → DonePart
unmarked_part p = record p { renewed = false }

abbrev pub unmarked : List DonePart → List DonePart
unmarked ps = map unmarked_part ps

-- the part's path leads in the tree, and its trace supports the subtree there
pub record HoldsPart (t : WideTree) (p : DonePart) : Type 0 where
  pub there : WideTree
  pub leads : subtree t p.path ≡ Some there
  pub supports : Supports (wide_trace p.trace) (alone there)
  pub tidy : IsTidy p

-- Where the unit's trace is cached, these are its parts, if nothing has a shell, in every environment that agrees with
-- the trace's looks, with any number of steps that is enough for it.
abbrev pub AreItsParts : DocUnit → KeptParts → Option WideTrace → Type 0
AreItsParts u ks None = Unit {0}
AreItsParts u ks (Some trace) = (n : ℕ) (e : Before) → Agrees e trace.looks → trace.cost ≤ n
    → (if has_parts u then map stored_part (parts MOST_LEVELS n [] u.tagged.tree e) else []) ≡ ks

-- What is true of the cached parts of a unit, of which this trace is cached. If they are `shelled`, they may be those
-- of an opener that opens something.
pub record PartsHold (shelled : Bool) (u : DocUnit) (o : Option WideTrace) (ps : List DonePart) : Type 0 where
  pub hold : AllByRecursion (HoldsPart u.tagged.tree) ps
  pub distinct : IsDistinct bytes_eq (paths_of ps)
  pub all : has_parts u && shelled ≡ false → AreItsParts u (kept_parts ps) o

-- the same parts, in order, and none of the second ones is marked as renewed
abbrev pub is_same_part : DonePart → DonePart → Bool
is_same_part p q = bytes_eq p.path q.path && not q.renewed

abbrev pub are_same_parts : List DonePart → List DonePart → Bool
are_same_parts [] [] = true
are_same_parts [] (q ∷ qs) = false
are_same_parts (p ∷ ps) [] = false
are_same_parts (p ∷ ps) (q ∷ qs) = is_same_part p q && are_same_parts ps qs

-- ---- of all units

-- the path leads in the tree, and the trace supports the subtree there
pub record StoredHolds (t : WideTree) (s : Stored) : Type 0 where
  pub trace : WideTrace
  pub is : s.trace ≡ Some trace
  pub there : WideTree
  pub leads : subtree t s.path ≡ Some there
  pub supports : Supports trace (alone there)

-- each part of a unit with this tree holds, and no two have one path
pub record StoredAllHold (t : WideTree) (ks : KeptParts) : Type 0 where
  pub hold : AllByRecursion (StoredHolds t) ks
  pub distinct : IsDistinct bytes_eq (part_paths ks)

-- the parts of each unit hold
abbrev pub AllPartsHold : Kept → List KeptParts → Type 0
AllPartsHold [] [] = Unit {0}
AllPartsHold [] (ks ∷ pss) = ⊥
AllPartsHold (e ∷ es) [] = ⊥
AllPartsHold (e ∷ es) (ks ∷ pss) = StoredAllHold e.unit.tagged.tree ks × AllPartsHold es pss
