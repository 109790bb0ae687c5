use Rattle.std.proofs.Common.{◌≡◌, take}
use Rattle.tx_bridge.specs.Entries.{units_of}
use Rattle.tx_view.proofs.base.shared_base.Given as goal

abbrev pub invariant-loop-i : goal.invariant-loop-i
invariant-loop-i l = l.base.items ≡ take l.i (units_of l.bridges.kept)
