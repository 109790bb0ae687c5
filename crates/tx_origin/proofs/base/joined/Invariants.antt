use Rattle.std.proofs.Common.{◌≡◌, ◌++◌, take}
use Rattle.tx_origin.proofs.base.joined.Given as goal

abbrev pub invariant-loop-step : goal.invariant-loop-step
invariant-loop-step l = l.path ≡ l.front ++ take l.step-index l.step-items
