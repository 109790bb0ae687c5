use Rattle.std.proofs.Common.{◌≡◌, ◌++◌, length}
use Rattle.tx_bridge.specs.Courses.{with_arrived, strays_left}
use Rattle.tx_bridge.proofs.arriving.put_moves.Given as goal

abbrev pub invariant-loop-part_move : goal.invariant-loop-part_move
invariant-loop-part_move l =
    (with_arrived l.part_move-iterator.rest.items 0 l.new ≡ with_arrived l.fn.moves.items 0 l.fn.new)
    × (l.strays.items ++ strays_left l.part_move-iterator.rest.items (length l.fn.new)
    ≡ l.fn.strays.items ++ strays_left l.fn.moves.items (length l.fn.new))
    × (length l.new ≡ length l.fn.new)
