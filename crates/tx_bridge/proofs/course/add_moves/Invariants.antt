use Rattle.std.proofs.Common.{◌≡◌, ◌++◌, map, drop, length, Some}
use Rattle.std.specs.List.{All}
use Rattle.tx_tree.specs.WideTree.{WideTree}
use Rattle.tx_tree.specs.Paths.{subtree}
use Rattle.tx_mod.specs.Followed.{changed_by_all}
use Rattle.tx_walk.specs.Walked.{IsTidy}
use Rattle.tx_bridge.specs.Courses.{IsPassage, HasTree}
use Rattle.tx_bridge.specs.HeldParts.{kept_parts}
use Rattle.tx_bridge.specs.PartMoves.{moves_below, seen_move}
use Rattle.tx_bridge.proofs.course.add_moves.Given as goal

abbrev pub invariant-loop-k : goal.invariant-loop-k
invariant-loop-k l = ((t : WideTree) → IsPassage l.mods t l.trees → subtree t l.path ≡ Some l.tree
    → map seen_move l.moves.items
    ++ moves_below l.mods t l.units l.fn.i l.path l.k (kept_parts (drop l.k l.parts))
    ≡ map seen_move l.fn.moves.items ++ moves_below l.mods t l.units l.fn.i l.path 0 (kept_parts l.parts))
    × (All (λ m. IsTidy m.part) l.fn.moves.items → All (λ m. IsTidy m.part) l.moves.items)
    × ((t : WideTree) → IsPassage l.mods t l.trees → subtree t l.path ≡ Some l.tree
    → All (HasTree (λ u. changed_by_all l.mods t ≡ Some u) (length l.units)) l.fn.moves.items
    → All (HasTree (λ u. changed_by_all l.mods t ≡ Some u) (length l.units)) l.moves.items)
