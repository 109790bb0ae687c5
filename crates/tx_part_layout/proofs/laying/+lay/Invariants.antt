use Rattle.std.proofs.Common.{◌≡◌, ◌+◌, ◌*◌, ◌≤◌, drop}
use Rattle.tx_part_items.specs.ShownParts.{parts_shown, children_shown}
use Rattle.tx_part_layout.specs.declared.laying.Laying.{Laying}
use Rattle.tx_part_layout.specs.Laying.{HasLaid, IsRightSoFar, left_values}
use Rattle.tx_part_layout.proofs.laying.+lay.Given as goal

abbrev pub decreases-lay_tree : goal.decreases-lay_tree
decreases-lay_tree g l = 4 * l.levels

abbrev pub decreases-lay_child : goal.decreases-lay_child
decreases-lay_child g l = 4 * l.levels + 1

abbrev pub decreases-lay_children : goal.decreases-lay_children
decreases-lay_children g l = 4 * l.levels + 2

abbrev pub decreases-lay_with : goal.decreases-lay_with
decreases-lay_with g l = 4 * l.levels + 1

abbrev pub invariant-lay_children-loop-kid : goal.invariant-lay_children-loop-kid
invariant-lay_children-loop-kid g l = record {
  going : (z : Laying) →
      HasLaid l.old l.parts
      (children_shown (parts_shown l.levels) l.laying.attrs (left_values l.parts l.laying.next)
      (drop l.kid-index l.kid-items)) l.laying z →
      HasLaid l.old l.parts
      (children_shown (parts_shown l.levels) l.fn.laying.attrs (left_values l.parts l.fn.laying.next) l.kid-items)
      l.fn.laying z;
  right : IsRightSoFar l.width l.old l.laying;
  counted : l.steps + l.fn.laying.unit.items ≡ l.fn.steps + l.laying.unit.items;
  rises : l.fn.steps ≤ l.steps;
}
