-- What a walk by parts returns.
use Rattle.std.specs.Prelude.{◌≡◌, ℕ, Bool, true, not, if◌then◌else◌, List, [], ◌∷◌, map}
use Rattle.std.specs.Prelude.{Option, Some, None, is_some, IfSome}
use Rattle.std.specs.List.{IsDistinct}
use Rattle.std.specs.Map.{keys_of}
use Rattle.std.specs.Str.{bytes_eq}
use Rattle.tx_origin.specs.Under.{value_under}
use Rattle.tx_exec_form.specs.Evaluated.{WideTrace}
use Rattle.tx_exec.specs.declared.outcome.Trace.{Trace}
use Rattle.tx_exec.specs.Outcomes.{wide_trace}
use Rattle.tx_parts.specs.Parts.{Part, part_trace}
use Rattle.tx_walk.specs.declared.part.Part.{Part as DonePart}
use Rattle.tx_walk.specs.Held.{Store, Stores, serves}

-- the first of the parts at the path has the cached trace there
abbrev pub kept_in : List DonePart → Store
kept_in [] path = None
kept_in (p ∷ ps) path = if bytes_eq p.path path then Some (wide_trace p.trace) else kept_in ps path

-- the traces of these parts, and of those of the spare
abbrev pub stores_in : List DonePart → List DonePart → Stores
stores_in kept spare = record { own = kept_in kept; spare = kept_in spare }

abbrev pub paths_of : List DonePart → List (List ℕ)
paths_of ps = map (λ p. p.path) ps

-- no name occurs twice in the looks, and none in the writes
abbrev pub AreOnce : Trace → Type 0
AreOnce trace = IsDistinct bytes_eq (keys_of trace.looks) × IsDistinct bytes_eq (keys_of trace.writes)

-- A part as it is cached: no name occurs twice, and the value at hand is the trace's with its origins under the path.
pub record IsTidy (p : DonePart) : Type 0 where
  pub once : AreOnce p.trace
  pub placed : IfSome p.placed (λ v. v ≡ value_under p.path p.trace.value)

-- the value is at hand
abbrev pub IsPlaced : DonePart → Type 0
IsPlaced p = is_some p.placed ≡ true

-- the path of a part, its trace, and whether no cached trace there fits, whatever the spare has
pub record Seen : Type 0 where
  pub path : List ℕ
  pub trace : Option WideTrace
  pub renewed : Bool

abbrev pub seen : DonePart → Seen
seen p = record { path = p.path; trace = Some (wide_trace p.trace); renewed = p.renewed }

abbrev pub seen_in : Stores → Part → Seen
seen_in kept p = record { path = p.path; trace = part_trace p; renewed = not (serves kept.own p) }

-- each part of a tree with its trace, and none where the tree runs out
abbrev pub seen_parts : Stores → List Part → Option WideTrace → List Seen
seen_parts kept ps None = []
seen_parts kept ps (Some trace) = map (seen_in kept) ps
