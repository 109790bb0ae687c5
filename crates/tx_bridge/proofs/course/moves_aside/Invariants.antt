use Rattle.std.proofs.Common.{◌≡◌, ◌++◌, map, drop, length}
use Rattle.std.specs.List.{All}
use Rattle.tx_walk.specs.Walked.{IsTidy}
use Rattle.tx_bridge.specs.Courses.{HasTree}
use Rattle.tx_bridge.specs.PartMoves.{moves_aside, seen_move}
use Rattle.tx_bridge.specs.Strays.{StandAside, kept_strays, strays_in}
use Rattle.tx_bridge.proofs.course.moves_aside.Given as goal

abbrev pub invariant-loop-k : goal.invariant-loop-k
invariant-loop-k l =
    (map seen_move l.moves.items ++ moves_aside l.units l.fn.i l.k (kept_strays (strays_in (drop l.k l.strays)))
    ≡ moves_aside l.units l.fn.i 0 (kept_strays (strays_in l.strays)))
    × All (λ m. IsTidy m.part) l.moves.items
    × All (HasTree (λ u. StandAside u (strays_in l.strays)) (length l.units)) l.moves.items
