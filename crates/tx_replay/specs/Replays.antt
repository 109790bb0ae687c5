-- What the replay of a trace does.
use Rattle.std.specs.Prelude.{◌≡◌, ◌≤◌, ◌<◌, ◌⊎◌, ◌-◌, min, ℕ, List, Option, Result, Ok, Err}
use Rattle.std.specs.FinMap.{from_entries}
use Rattle.tx_tree.specs.WideTree.{WideTree}
use Rattle.tx_env.specs.Pairs.{Name}
use Rattle.tx_env.specs.Changes.{map_of}
use Rattle.tx_exec_form.specs.Runs.{State}
use Rattle.tx_exec_form.specs.Evaluated.{WideTrace}
use Rattle.tx_parts.specs.Atop.{both_looks}
use Rattle.tx_parts.specs.Adding.{after_part}
use Rattle.tx_replay.specs.declared.stop.Stop.{Stop}
use Rattle.tx_replay.specs.declared.stop.Stop.TheVariants as stops
use Rattle.tx_replay.specs.declared.progress.Noted.{Noted}

-- with n steps less
abbrev pub taken : ℕ → State → State
taken n s = record { own = s.own; looks = s.looks; left = s.left - n; slack = s.slack }

-- where so many levels were left
abbrev pub lowered : ℕ → State → State
lowered slack s = record { own = s.own; looks = s.looks; left = s.left; slack = min s.slack slack }

-- with these looks after the others, but those at names that were set
abbrev pub looked : List (Name × Option WideTree) → State → State
looked looks s = record {
  own = s.own;
  looks = both_looks s.looks s.own (from_entries looks);
  left = s.left;
  slack = s.slack;
}

-- all that the trace says was done, and was allowed
pub record IsReplayed (k : ℕ) (trace : WideTrace) (s z : State) : Type 0 where
  pub cost : trace.cost ≤ s.left
  pub height : trace.height ≤ k
  pub state : z ≡ after_part k s trace

abbrev pub IsRefused : Stop → ℕ → WideTrace → State → Type 0
IsRefused stops.Memory k trace s = Unit {0}
IsRefused stops.Over k trace s = (s.left < trace.cost) ⊎ (k < trace.height)

abbrev pub Replays : {X : Type 0} → Result X Stop → ℕ → WideTrace → State → State → Type 0
Replays (Ok x) k trace s z = IsReplayed k trace s z
Replays (Err e) k trace s z = IsRefused e k trace s

abbrev pub state_by : Noted → State
state_by n = record { own = map_of n.own; looks = from_entries n.looks; left = n.left; slack = n.slack }
