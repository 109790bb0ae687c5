use Rattle.std.proofs.Common.{◌≤◌, ◌+◌, ◌-◌, drop, length}
use Rattle.tx_table.specs.Painting.{last_set, Painted, up_to}
use Rattle.tx_table.proofs.sides.paint.Given as goal

abbrev pub invariant-loop-at : goal.invariant-loop-at
invariant-loop-at l = record {
  far : l.setting.first ≤ l.at;
  painted : Painted (up_to l.at (last_set (drop l.i l.settings) l.row) (last_set (drop (l.i + 1) l.settings) l.row))
      l.sides l.next;
}

abbrev pub decreases-loop-at : goal.decreases-loop-at
decreases-loop-at l = length l.sides - l.at
