use Rattle.std.proofs.Common.{◌≡◌, ◌++◌, take, drop}
use Rattle.tx_bridge.proofs.Losing.{none_of}
use Rattle.tx_bridge.proofs.lost.lose.Given as goal

abbrev pub invariant-loop-i : goal.invariant-loop-i
invariant-loop-i l = l.places ≡ none_of (take l.i l.fn.places) ++ drop l.i l.fn.places
