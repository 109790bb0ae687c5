use Rattle.std.proofs.Common.{◌≡◌, map, take}
use Rattle.tx_bridge.proofs.course.paths_of.Given as goal

abbrev pub invariant-loop-bridge : goal.invariant-loop-bridge
invariant-loop-bridge l = l.paths.items ≡ map (λ b. b.unit.path) (take l.bridge-index l.bridges)
