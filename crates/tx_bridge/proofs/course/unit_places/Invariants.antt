use Rattle.std.proofs.Common.{◌≡◌, map, take}
use Rattle.tx_tree.specs.WideTree.{WideTree}
use Rattle.tx_bridge.specs.Carrying.{AllStand, through}
use Rattle.tx_bridge.specs.Courses.{IsPassage}
use Rattle.tx_bridge.specs.Slots.{bodies_of, paths_in}
use Rattle.tx_bridge.proofs.course.unit_places.Given as goal

abbrev pub invariant-loop-bridge : goal.invariant-loop-bridge
invariant-loop-bridge l = (t : WideTree) → IsPassage l.mods t l.trees → AllStand t (bodies_of l.bridges)
    → l.places.items ≡ map (through l.mods t) (paths_in (take l.bridge-index l.bridges))
