use Rattle.std.proofs.Common.{◌≡◌, ◌++◌, take, drop}
use Rattle.tx_view.specs.Laid.{without_parts}
use Rattle.tx_view.proofs.evaluating.forget_all_parts.Given as goal

abbrev pub invariant-loop-i : goal.invariant-loop-i
invariant-loop-i l = take l.i l.units ++ without_parts (drop l.i l.units) ≡ without_parts l.fn.units
