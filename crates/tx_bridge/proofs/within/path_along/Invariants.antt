use Rattle.std.proofs.Common.{◌≡◌, take}
use Rattle.tx_bridge.proofs.within.path_along.Given as goal

abbrev pub invariant-loop-step : goal.invariant-loop-step
invariant-loop-step l = l.path ≡ take l.step-index l.steps
