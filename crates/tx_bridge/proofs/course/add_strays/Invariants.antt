use Rattle.std.proofs.Common.{◌≡◌, ◌++◌, [], map, drop, length, Some}
use Rattle.std.specs.List.{All}
use Rattle.tx_tree.specs.WideTree.{WideTree}
use Rattle.tx_mod.specs.Followed.{changed_by_all}
use Rattle.tx_walk.specs.Walked.{IsTidy}
use Rattle.tx_bridge.specs.Courses.{IsPassage, HasTree}
use Rattle.tx_bridge.specs.PartMoves.{moves_below, seen_move}
use Rattle.tx_bridge.specs.Strays.{StandAside, kept_strays, strays_in}
use Rattle.tx_bridge.proofs.course.add_strays.Given as goal

abbrev pub invariant-loop-k : goal.invariant-loop-k
invariant-loop-k l = ((t : WideTree) → IsPassage l.mods t l.trees → StandAside t (strays_in l.strays)
    → map seen_move l.moves.items
    ++ moves_below l.mods t l.units l.fn.i [] l.k (kept_strays (strays_in (drop l.k l.strays)))
    ≡ map seen_move l.fn.moves.items ++ moves_below l.mods t l.units l.fn.i [] 0 (kept_strays (strays_in l.strays)))
    × (All (λ m. IsTidy m.part) l.fn.moves.items → All (λ m. IsTidy m.part) l.moves.items)
    × ((t : WideTree) → IsPassage l.mods t l.trees → StandAside t (strays_in l.strays)
    → All (HasTree (λ u. changed_by_all l.mods t ≡ Some u) (length l.units)) l.fn.moves.items
    → All (HasTree (λ u. changed_by_all l.mods t ≡ Some u) (length l.units)) l.moves.items)
