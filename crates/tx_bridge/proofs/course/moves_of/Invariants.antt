use Rattle.std.proofs.Common.{◌≡◌, ◌++◌, map, drop, length, Some}
use Rattle.std.specs.List.{All}
use Rattle.tx_tree.specs.WideTree.{WideTree}
use Rattle.tx_mod.specs.Followed.{changed_by_all}
use Rattle.tx_walk.specs.Walked.{IsTidy}
use Rattle.tx_bridge.specs.Carrying.{AllStand, through}
use Rattle.tx_bridge.specs.Courses.{IsPassage, HasTree}
use Rattle.tx_bridge.specs.PartMoves.{moves_from, seen_move}
use Rattle.tx_bridge.specs.Slots.{bodies_of, paths_in}
use Rattle.tx_bridge.specs.Sound.{stored_parts_in}
use Rattle.tx_bridge.proofs.course.moves_of.Given as goal

abbrev pub invariant-loop-i : goal.invariant-loop-i
invariant-loop-i l = ((t : WideTree) → IsPassage l.mods t l.trees → AllStand t (bodies_of l.bridges)
    → l.places ≡ map (through l.mods t) (paths_in l.bridges)
    → map seen_move l.moves.items
    ++ moves_from l.mods t l.units l.i (bodies_of (drop l.i l.bridges)) (stored_parts_in (drop l.i l.bridges))
    ≡ moves_from l.mods t l.units 0 (bodies_of l.bridges) (stored_parts_in l.bridges))
    × All (λ m. IsTidy m.part) l.moves.items
    × ((t : WideTree) → IsPassage l.mods t l.trees → AllStand t (bodies_of l.bridges)
    → All (HasTree (λ u. changed_by_all l.mods t ≡ Some u) (length l.units)) l.moves.items)
