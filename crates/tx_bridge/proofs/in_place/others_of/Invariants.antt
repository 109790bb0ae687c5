use Rattle.std.proofs.Common.{◌≡◌, ◌++◌, drop}
use Rattle.tx_bridge.specs.Others.{others_from}
use Rattle.tx_bridge.proofs.in_place.others_of.Given as goal

abbrev pub invariant-loop-i : goal.invariant-loop-i
invariant-loop-i l =
    l.numbers.items ++ others_from l.mods l.path l.i (drop l.i l.parts) ≡ others_from l.mods l.path 0 l.parts
