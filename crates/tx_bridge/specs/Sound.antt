-- What is true of what is cached.
use Rattle.std.specs.Prelude.{◌≡◌, ◌≤◌, ℕ, zero, suc, List, [], ◌∷◌, map, length, Bool, true, Option, Some, None}
use Rattle.std.specs.Prelude.{◌==◌, if◌then◌else◌}
use Rattle.std.specs.List.{All}
use Rattle.std.specs.FinMap.{empty}
use Rattle.tx_tree.specs.WideTree.{WideTree}
use Rattle.tx_origin.specs.TaggedTrees.{TaggedTree, tagged_of}
use Rattle.tx_exec_form.specs.declared.TheConstants.{MOST_LEVELS}
use Rattle.tx_exec_form.specs.Evaluated.{WideTrace}
use Rattle.tx_exec_form.specs.Laws.{Supports}
use Rattle.tx_exec.specs.declared.outcome.Outcome.TheVariants.{Over}
use Rattle.tx_exec.specs.Outcomes.{wide_outcome, NamesOnce}
use Rattle.tx_units.specs.Units.{unit_with}
use Rattle.tx_bridge.specs.declared.bridge.Bridge.{Bridge}
use Rattle.tx_bridge.specs.declared.bridge.Way.{Way}
use Rattle.tx_bridge.specs.declared.bridge.Way.TheVariants.{Listed, InPlace}
use Rattle.tx_bridge.specs.UnitLists.{HasPathIfBody, AreUnits}
use Rattle.tx_bridge.specs.Entries.{Entry, Kept, units_of}
use Rattle.tx_bridge.specs.Settled.{AreSettled}
use Rattle.tx_bridge.specs.PartsKept.{KeptParts}
use Rattle.tx_bridge.specs.HeldParts.{PartsHold, kept_parts, flags_of_parts}
use Rattle.tx_walk.specs.declared.part.Part.{Part as DonePart}
use Rattle.tx_walk.specs.LayerTraces.{TreeTrace}
use Rattle.tx_bridge.specs.InPlace.{numbers_but}
use Rattle.tx_bridge.specs.declared.strays.Stray.{Stray as DoneStray}
use Rattle.tx_bridge.specs.Strays.{AreStrays, AreTidy, strays_in}

-- A cached trace is the tree's, with no more levels than there are, in every environment that agrees with its looks.
abbrev pub TraceHolds : Option WideTrace → TaggedTree → Type 0
TraceHolds None t = Unit {0}
TraceHolds (Some trace) t = Supports trace t × (trace.height ≤ MOST_LEVELS)

-- what is cached of each unit supports its tree
abbrev pub AllHold : Kept → Type 0
AllHold es = All (λ e. TraceHolds e.trace (tagged_of e.unit.tagged)) es

-- ---- what contracts see of the program's entries

abbrev pub kept_unit : Bridge → Entry
kept_unit b = record { unit = b.unit; trace = wide_outcome b.kept }

abbrev pub entries_of : List Bridge → Kept
entries_of bs = map kept_unit bs

abbrev pub stored_parts_in : List Bridge → List KeptParts
stored_parts_in bs = map (λ b. kept_parts b.parts) bs

abbrev pub part_flags_in : List Bridge → List (List Bool)
part_flags_in bs = map (λ b. flags_of_parts b.parts) bs

abbrev pub layers_in : List Bridge → List (List TreeTrace)
layers_in bs = map (λ b. b.layers) bs

abbrev pub flags_of : List Bridge → List Bool
flags_of bs = map (λ b. b.reached) bs

abbrev pub sources_in : List Bridge → List (Option ℕ)
sources_in bs = map (λ b. b.source) bs

-- which unit that of number k was before the last edit, by the way in which this is known
abbrev pub source_by : Way → ℕ → Bridge → Option ℕ
source_by Listed k b = b.source
source_by (InPlace i) k b = if k == i then None else Some k

-- which unit each one was before the last edit
abbrev pub sources_by : Way → List Bridge → List (Option ℕ)
sources_by Listed bs = sources_in bs
sources_by (InPlace i) bs = numbers_but i 0 (length bs)

-- the entry, where its unit has this tree, of which only these parts are cached
abbrev pub changed_bridge : WideTree → List DonePart → Bridge → Bridge
changed_bridge t ps b =
    record {
      unit = unit_with t b.unit;
      kept = Over;
      parts = ps;
      layers = b.layers;
      shelled = b.shelled;
      reached = b.reached;
      source = b.source;
    }

-- the entries, of which that of number i is so
abbrev pub changed_in : ℕ → WideTree → List DonePart → List Bridge → List Bridge
changed_in i t ps [] = []
changed_in zero t ps (b ∷ bs) = changed_bridge t ps b ∷ bs
changed_in (suc i) t ps (b ∷ bs) = b ∷ changed_in i t ps bs

pub record IsSoundBridge (b : Bridge) : Type 0 where
  pub holds : TraceHolds (wide_outcome b.kept) (tagged_of b.unit.tagged)
  pub once : NamesOnce b.kept
  pub placed : HasPathIfBody b.unit
  pub parts : PartsHold b.shelled b.unit (wide_outcome b.kept) b.parts

-- Each entry is sound, the units are such as documents have, and where the flag is set, what is cached agrees with
-- itself. Strays hold, and are in no unit.
pub record AreRight (flag : Bool) (bs : List Bridge) (ss : List DoneStray) : Type 0 where
  pub sound : All IsSoundBridge bs
  pub units : AreUnits (units_of (entries_of bs))
  pub settled : flag ≡ true → AreSettled empty (entries_of bs)
  pub strays : AreStrays (units_of (entries_of bs)) (strays_in ss)
  pub tidy : AreTidy ss
