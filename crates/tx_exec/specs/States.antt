-- What an evaluation has set and looked up, as a state.
use Rattle.std.specs.Prelude.{List, [], ◌∷◌, ℕ, Option, Some, None}
use Rattle.std.specs.FinMap.{get, from_entries}
use Rattle.tx_tree.specs.WideTree.{WideTree}
use Rattle.tx_env.specs.Pairs.{Name, Pairs}
use Rattle.tx_env.specs.Environments.{Environment}
use Rattle.tx_env.specs.Changes.{map_of}
use Rattle.tx_exec_form.specs.Runs.{Before, State}
use Rattle.tx_exec.specs.declared.progress.Progress.{Progress}

abbrev pub before_of : Environment → Before
before_of env x = get env.map x

abbrev pub state_of : Progress → State
state_of p = record { own = map_of p.own; looks = from_entries p.looks; left = p.left; slack = p.slack }

-- the names that have a tree, with their trees
abbrev pub with_one : Name → Option WideTree → List (Name × WideTree) → List (Name × WideTree)
with_one x None ws = ws
with_one x (Some t) ws = (x, t) ∷ ws

abbrev pub set_pairs : Pairs → List (Name × WideTree)
set_pairs [] = []
set_pairs (p ∷ ps) = with_one p.0 p.1 (set_pairs ps)
