use Rattle.std.proofs.Common.{◌≡◌, map, take}
use Rattle.tx_bridge.specs.Others.{path_of_part}
use Rattle.tx_bridge.proofs.within.paths_of_parts.Given as goal

abbrev pub invariant-loop-number : goal.invariant-loop-number
invariant-loop-number l = l.paths.items ≡ map (path_of_part l.path l.parts) (take l.number-index l.numbers)
