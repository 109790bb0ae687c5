use Rattle.std.specs.Prelude.{Some}
use Rattle.tx_tree.specs.WideTree.{WideTree}
use Rattle.tx_bridge.specs.Carrying.{Leads}
use Rattle.tx_bridge.specs.Courses.{IsPassage}
use Rattle.tx_bridge.proofs.Passing.{Along}
use Rattle.tx_bridge.proofs.course.place_along.Given as goal

abbrev pub invariant-loop-i : goal.invariant-loop-i
invariant-loop-i l = (t : WideTree) → IsPassage l.mods t l.trees → Leads t (Some l.fn.path)
    → Along l.mods l.trees t l.i l.fn.path l.path
