use Rattle.std.proofs.Common.{◌≡◌, ◌++◌, ◌<◌, ℕ, true, false, take, drop}
use Rattle.std.specs.Option.{unwrap_or}
use Rattle.std.specs.Prelude.{slice_get}
use Rattle.tx_view.specs.Laid.{without}
use Rattle.tx_view.proofs.evaluating.forget_reached.Given as goal

abbrev pub invariant-loop-i : goal.invariant-loop-i
invariant-loop-i l = record {
  shown :
      take l.i l.units ++ without (drop l.i l.bridges.reached) (drop l.i l.units)
      ≡ without l.bridges.reached l.fn.units;
  alone :
      l.alone ≡ true → (k : ℕ) → k < l.i → (k ≡ l.lone → ⊥) → unwrap_or (slice_get l.bridges.reached k) false ≡ false;
}
