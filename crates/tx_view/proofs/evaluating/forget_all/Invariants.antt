use Rattle.std.proofs.Common.{◌≡◌, ◌++◌, take, drop, map}
use Rattle.tx_view.specs.Laid.{dropped}
use Rattle.tx_view.proofs.evaluating.forget_all.Given as goal

abbrev pub invariant-loop-i : goal.invariant-loop-i
invariant-loop-i l = take l.i l.units ++ map dropped (drop l.i l.units) ≡ map dropped l.fn.units
