-- What functions return is what the definitions give.
use Rattle.std.specs.Prelude.{◌≡◌, ℕ, ◌+◌, ◌≤◌, Result, Ok, Err}
use Rattle.tx_tree.specs.WideTree.{size_of, depth_of}
use Rattle.tx_origin.specs.Values.{WideValue, plain}
use Rattle.tx_exec_form.specs.Runs.{State, Ran, Over, Done}
use Rattle.tx_replay.specs.Walks.{Stage, Walked, Stopped, Went}
use Rattle.tx_replay.specs.declared.stop.Stop.{Stop}
use Rattle.tx_replay.specs.declared.stop.Stop.TheVariants as stops

abbrev pub Fails : {A : Type 0} → Stop → Ran A → Type 0
Fails stops.Memory r = Unit {0}
Fails stops.Over r = r ≡ Over

-- of an evaluation, unless memory ran out
abbrev pub Gives : {X A : Type 0} → (X → A) → Result X Stop → Ran A → State → Type 0
Gives view (Ok x) r s = r ≡ Done (view x) s
Gives view (Err e) r s = Fails e r

abbrev pub Stops : {A : Type 0} → Stop → Walked A → ℕ → Type 0
Stops stops.Memory r n = Unit {0}
Stops stops.Over r n = r ≡ Stopped n

-- of a walk, unless memory ran out
abbrev pub Walks : {X A : Type 0} → (X → A) → Result X Stop → Walked A → Stage → Type 0
Walks view (Ok x) r s = r ≡ Went (view x) s
Walks view (Err e) r s = Stops e r s.count

-- A value is no larger than the steps that were taken, and no deeper than the levels, and fewer are left.
pub record IsBounded (v : WideValue) (levels : ℕ) (old new : State) : Type 0 where
  pub size : size_of (plain v) + new.left ≤ old.left
  pub depth : depth_of (plain v) ≤ levels
  pub slack : new.slack ≤ levels
