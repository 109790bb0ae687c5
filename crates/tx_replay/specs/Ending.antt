-- How the walk of a unit ends.
use Rattle.std.specs.Prelude.{◌≡◌, ℕ, List, [], map, Some, None, Result, Ok, Err}
use Rattle.tx_origin.specs.Values.{WideValue}
use Rattle.tx_exec_form.specs.Runs.{State}
use Rattle.tx_exec_form.specs.Evaluated.{start, trace_of}
use Rattle.tx_exec.specs.Outcomes.{wide_outcome}
use Rattle.tx_replay.specs.Walks.{Stage}
use Rattle.tx_replay.specs.Cached.{seen}
use Rattle.tx_replay.specs.Replays.{state_by}
use Rattle.tx_replay.specs.declared.stop.Stop.{Stop}
use Rattle.tx_replay.specs.declared.stop.Stop.TheVariants as stops
use Rattle.tx_kept.specs.declared.path_map.Entry.{Entry}
use Rattle.tx_replay.specs.declared.cached.CachedPart.{CachedPart}
use Rattle.tx_replay.specs.declared.unit.ByParts.{ByParts}
use Rattle.tx_replay.specs.declared.unit.UnitWalked.{UnitWalked}

-- nothing is done yet, with 400 levels and c steps
abbrev pub first_stage : ℕ → ℕ → Stage
first_stage c count = record { state = start 400 c; done = []; count = count }

abbrev pub last_stage : UnitWalked → ℕ → Stage
last_stage w count = record { state = state_by w.noted; done = map seen w.parts.items; count = count }

-- a value with what is noted is a trace, and without a value there are no parts
abbrev pub Ends : ℕ → Result WideValue Stop → State → List (Entry CachedPart) → ByParts → Type 0
Ends c (Ok v) s ps w = (wide_outcome w.outcome ≡ Some (trace_of 400 c v s)) × (w.parts.items ≡ ps)
Ends c (Err stops.Over) s ps w = (wide_outcome w.outcome ≡ None) × (w.parts.items ≡ [])
Ends c (Err stops.Memory) s ps w = ⊥
