-- What the spare has cached of the same units. Private clauses cite these.
use Rattle.std.specs.Prelude.{◌≡◌, ℕ, true, List, [], map, Option, Some, None, slice_get}
use Rattle.tx_exec.specs.declared.outcome.Outcome.{Outcome}
use Rattle.tx_exec.specs.Outcomes.{wide_outcome, NamesOnce}
use Rattle.tx_walk.specs.declared.part.Part.{Part as DonePart}
use Rattle.tx_walk.specs.LayerTraces.{TreeTrace}
use Rattle.tx_units.specs.declared.kinds.Unit.{Unit as DocUnit}
use Rattle.tx_view_form.specs.Outcomes.{Moment}
use Rattle.tx_bridge.specs.declared.bridge.Bridge.{Bridge}
use Rattle.tx_bridge.specs.Entries.{outcome_of}
use Rattle.tx_bridge.specs.Reached.{can_be_used}
use Rattle.tx_bridge.specs.HeldParts.{kept_parts}
use Rattle.tx_bridge.specs.Sound.{IsSoundBridge}
use Rattle.tx_bridge.specs.Spares.{UnitSpare, Spares, nothing_spare}

abbrev pub lent_spare : Bridge → UnitSpare
lent_spare b = record { trace = wide_outcome b.kept; parts = kept_parts b.parts; layers = b.layers }

abbrev pub spare_of : Option Bridge → UnitSpare
spare_of None = nothing_spare
spare_of (Some b) = lent_spare b

abbrev pub spare_parts : Option Bridge → List DonePart
spare_parts None = []
spare_parts (Some b) = b.parts

abbrev pub spare_layers : Option Bridge → List TreeTrace
spare_layers None = []
spare_layers (Some b) = b.layers

abbrev pub spares_in : List Bridge → Spares
spares_in bs = map lent_spare bs

-- it is one of this unit, and sound
pub record IsSpareOf (u : DocUnit) (b : Bridge) : Type 0 where
  pub unit : b.unit ≡ u
  pub sound : IsSoundBridge b

-- what is spare of the unit can be used at the moment, and the outcome is the unit's
pub record IsUsable (m : Moment) (u : DocUnit) (spare : Option Bridge) (o : Outcome) : Type 0 where
  pub fitting : can_be_used m (spare_of spare).trace ≡ true
  pub comes : wide_outcome o ≡ outcome_of m u
  pub once : NamesOnce o

-- each has the unit of its number
abbrev pub HaveUnitsOf : List Bridge → List Bridge → Type 0
HaveUnitsOf spares bs = (i : ℕ) (s b : Bridge) → slice_get spares i ≡ Some s → slice_get bs i ≡ Some b
    → s.unit ≡ b.unit
