-- What is cached of the same units elsewhere, which is spare.
use Rattle.std.specs.Prelude.{List, [], ◌∷◌, map, zip, Option, Some, None}
use Rattle.tx_exec_form.specs.Evaluated.{WideTrace}
use Rattle.tx_walk.specs.Held.{Stores}
use Rattle.tx_walk.specs.LayerTraces.{TreeTrace}
use Rattle.tx_bridge.specs.Bridged.{Bridged}
use Rattle.tx_bridge.specs.Entries.{Entry}
use Rattle.tx_bridge.specs.PartsKept.{KeptParts, kept_at}

-- what is spare of a unit: its trace, or None, and what is spare of its parts, and of the trees of its layers
pub record UnitSpare : Type 0 where
  pub trace : Option WideTrace
  pub parts : KeptParts
  pub layers : List TreeTrace

-- nothing is spare
abbrev pub nothing_spare : UnitSpare
nothing_spare = record { trace = None; parts = []; layers = [] }

-- what is spare of each unit, and nothing of those past the end of the list
abbrev pub Spares : Type 0
Spares = List UnitSpare

abbrev pub first_spare : Spares → UnitSpare
first_spare [] = nothing_spare
first_spare (s ∷ ss) = s

abbrev pub kept_spare : Entry × (KeptParts × List TreeTrace) → UnitSpare
kept_spare p = record { trace = p.0.trace; parts = p.1.0; layers = p.1.1 }

-- what the spare has cached of the units, if there is one
abbrev pub spares_of : Option Bridged → Spares
spares_of None = []
spares_of (Some b) = map kept_spare (zip b.kept (zip b.parts b.layers))

-- what is cached of parts, and what is spare of them
abbrev pub stores_with : KeptParts → KeptParts → Stores
stores_with ps spare = record { own = kept_at ps; spare = kept_at spare }
