-- A run of cells that has begun. Only private clauses cite this.
use Rattle.std.specs.Prelude.{ℕ, ◌-◌, Bool, false, List, [], ◌∷◌, ◌++◌, replicate, Option, Some, None}
use Rattle.std.specs.Prelude.{if◌then◌else◌}
use Rattle.std.specs.Option.{option_map}
use Rattle.tx_items.specs.Looks.{WideLook}
use Rattle.tx_print.specs.declared.attributes.Begun.{Begun}
use Rattle.tx_print.specs.Runs.{CellLook, CellRun, cell_look, same_look, runs_from}

-- where it began, and how its cells look
pub record OpenRun : Type 0 where
  pub from : ℕ
  pub look : CellLook

abbrev pub open_run : Begun → OpenRun
open_run b = record { from = b.from; look = cell_look b.look.now }

abbrev pub open_run_in : Option Begun → Option OpenRun
open_run_in begun = option_map open_run begun

abbrev pub looks_in : Option WideLook → Option CellLook
looks_in look = option_map cell_look look

-- cells that look so go on with a run whose cells look so
abbrev pub is_like : Option CellLook → CellLook → Bool
is_like (Some look) own = same_look own look
is_like None own = false

-- a run may begin at a column
abbrev pub run_begun : Option CellLook → ℕ → Option OpenRun
run_begun (Some look) at = Some (record { from = at; look = look })
run_begun None at = None

-- the run that has begun after the cells at a column
abbrev pub run_going_on : Option OpenRun → Option CellLook → ℕ → Option OpenRun
run_going_on None look at = run_begun look at
run_going_on (Some run) look at = if is_like look run.look then Some run else run_begun look at

-- what ends at this column
abbrev pub runs_ended : Option OpenRun → Option CellLook → ℕ → List CellRun
runs_ended None look at = []
runs_ended (Some run) look at =
    if is_like look run.look then [] else record { from = run.from; to = at; look = run.look } ∷ []

-- the runs of cells at a column, where one has begun before them
abbrev pub runs_behind : Option OpenRun → ℕ → List (Option CellLook) → List CellRun
runs_behind None at cells = runs_from at cells
runs_behind (Some run) at cells = runs_from run.from (replicate (at - run.from) (Some run.look) ++ cells)
