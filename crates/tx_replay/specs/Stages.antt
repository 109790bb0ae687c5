-- A walk of the program as a stage.
use Rattle.std.specs.Prelude.{◌≡◌, ◌≤◌, ◌+◌, ℕ, Bool, List, [], ◌∷◌, ◌++◌, length, map, Result, Ok, Err, Some}
use Rattle.tx_tree.specs.WideTree.{WideTree, total_size, deepest}
use Rattle.tx_origin.specs.Values.{WideValue, vals, plains}
use Rattle.tx_origin.specs.Under.{value_under}
use Rattle.tx_exec_form.specs.Runs.{State}
use Rattle.tx_exec_form.specs.Evaluated.{WideTrace}
use Rattle.tx_parts.specs.Adding.{after_part}
use Rattle.tx_replay.specs.Walks.{Stage}
use Rattle.tx_replay.specs.Cached.{seen}
use Rattle.tx_replay.specs.Replays.{IsRefused}
use Rattle.tx_replay.specs.declared.stop.Stop.{Stop}
use Rattle.tx_replay.specs.declared.cached.CachedPart.{CachedPart}
use Rattle.tx_replay.specs.declared.walking.UnitWalk.{UnitWalk}

abbrev pub stage_of : UnitWalk → ℕ → Stage
stage_of w count = record { state = w.progress.state; done = map seen w.parts.items; count = count }

-- The trace was allowed, and is done: the part is put after the others.
pub record IsSettled (base : List ℕ) (k : ℕ) (path : List ℕ) (trace : WideTrace) (renewed : Bool) (v : WideValue)
    (s z : Stage) : Type 0 where
  pub cost : trace.cost ≤ s.state.left
  pub height : trace.height ≤ k
  pub value : v ≡ value_under path trace.value
  pub state : z.state ≡ after_part k s.state trace
  pub done : z.done ≡ s.done ++ record { path = base ++ path; trace = Some trace; renewed = renewed } ∷ []

abbrev pub Settles : Result WideValue Stop → List ℕ → ℕ → List ℕ → CachedPart → Stage → Stage → Type 0
Settles (Ok v) base k path p s z = IsSettled base k path p.trace p.renewed v s z
Settles (Err e) base k path p s z = IsRefused e k p.trace s.state

-- values of all trees, with k levels
pub record AreBounded (ts : List WideTree) (k : ℕ) (old new : State) (vs : List WideValue) : Type 0 where
  pub arity : length vs ≡ length ts
  pub size : total_size (plains (vals vs)) + new.left ≤ old.left
  pub depth : deepest (plains (vals vs)) ≤ k
  pub slack : new.slack ≤ k
