use Rattle.std.proofs.Common.{◌≡◌, take}
use Rattle.tx_replay.proofs.origins.origin_of.Given as goal

abbrev pub invariant-loop-i : goal.invariant-loop-i
invariant-loop-i l = l.origin ≡ take l.i-index l.i-items
