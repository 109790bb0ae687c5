-- What functions of the evaluator do with conditions.
use Rattle.std.specs.Prelude.{ℕ, ◌<◌, Bool, List, [], length, Option, None, codes}
use Rattle.tx_origin.specs.Values.{WideValue, text}
use Rattle.tx_origin.specs.TaggedTrees.{TaggedTree}
use Rattle.tx_exec_form.specs.Runs.{Run, ◌>>=◌, give}
use Rattle.tx_exec_form.specs.Frames.{Frame}
use Rattle.tx_exec_form.specs.Rows.{Eval, wrong, taken, value_truth, gathered}
use Rattle.tx_exec.specs.PartRuns.{kid_run}
use Rattle.tx_exec.specs.declared.picks.Pick.{Pick}
use Rattle.tx_exec.specs.declared.picks.Pick.TheVariants as picks
use Rattle.tx_exec.specs.declared.picks.Ending.{Ending}
use Rattle.tx_exec.specs.declared.picks.Ending.TheVariants as endings

-- whether the value is true or false
unfoldable pub truth_run : Eval → Frame → TaggedTree → Run (Option Bool)
truth_run below f c = do
  v ← below c f
  give (value_truth v)

-- the branch that is picked of these children
unfoldable pub picked : ℕ → Eval → Frame → List ℕ → List TaggedTree → Pick → Run WideValue
picked k below f label kids picks.Bad = wrong k (codes "bad") label
picked k below f label kids (picks.Branch i) = kid_run below f kids i
picked k below f label kids picks.Nothing = taken k (text [] None)

abbrev pub IsPick : List TaggedTree → Pick → Type 0
IsPick kids picks.Bad = Unit {0}
IsPick kids (picks.Branch i) = i < length kids
IsPick kids picks.Nothing = Unit {0}

-- how a `while` ends, where these are its values
unfoldable pub ended_by : ℕ → List ℕ → List WideValue → Ending → Run WideValue
ended_by k label vs endings.Bad = wrong k (codes "bad") label
ended_by k label vs endings.Finished = gathered vs
ended_by k label vs endings.Limit = wrong k (codes "limit") label
