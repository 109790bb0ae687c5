-- What a tree in layers evaluates to, step by step.
use Rattle.std.specs.Prelude.{◌≡◌, ◌<◌, ℕ, ◌+◌, max, [], ◌∷◌, ◌++◌, length, Option, Some, None, codes}
use Rattle.tx_tree.specs.WideTree.{total_size, deepest}
use Rattle.tx_env.specs.Environments.{NameMap}
use Rattle.tx_origin.specs.Values.{made, vals, plains}
use Rattle.tx_exec_form.specs.Maps.{LookMap}
use Rattle.tx_exec_form.specs.Runs.{Before}
use Rattle.tx_exec_form.specs.Evaluated.{WideTrace}
use Rattle.tx_parts.specs.Atop.{atop, env_atop, past, both_looks}
use Rattle.tx_parts.specs.Composed.{SoFar}

-- a step and a level more
abbrev pub step_more : WideTrace → WideTrace
step_more trace = record trace { cost = 1 + trace.cost; height = 1 + trace.height }

-- with these looks before it
abbrev pub look_before : LookMap → WideTrace → WideTrace
look_before looks trace =
    record trace { looks = atop looks trace.looks; cost = 1 + trace.cost; height = 1 + trace.height }

-- one step and one level more can be counted
pub record IsCountedTrace (trace : WideTrace) : Type 0 where
  pub cost : trace.cost < 1000000
  pub height : trace.height < 400

-- A layer that has set this and costs so much, whose names and trees evaluated to this, round what has this trace.
abbrev pub layer_by : NameMap → SoFar → ℕ → WideTrace → WideTrace
layer_by own a cost trace = record {
  value = made (codes "with") (vals (a.values ++ trace.value ∷ [])) None;
  looks = both_looks a.looks a.writes (past own trace.looks);
  writes = atop (past own trace.writes) a.writes;
  cost = cost + trace.cost;
  height = 1 + max a.height trace.height;
}

-- the values make a node within the limits
pub record FitsLayer (a : SoFar) (cost : ℕ) (trace : WideTrace) : Type 0 where
  pub arity : length a.values < 65535
  pub size : total_size (plains (vals (a.values ++ trace.value ∷ []))) < 1000000
  pub depth : deepest (plains (vals (a.values ++ trace.value ∷ []))) < 400
  pub sum : cost + trace.cost < 1000001
  pub height : max a.height trace.height < 400

-- what names have after a layer that has set this, where what is inside doesn't run out
abbrev pub BehindLayer : NameMap → Before → Before → Option WideTrace → Type 0
BehindLayer own before after None = Unit {0}
BehindLayer own before after (Some trace) = after ≡ env_atop (past own trace.writes) before
