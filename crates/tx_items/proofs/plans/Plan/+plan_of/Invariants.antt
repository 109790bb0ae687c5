use Rattle.std.proofs.Common.{◌≡◌, ◌+◌, ◌*◌, take}
use Rattle.tx_tree.specs.WideTree.{depth_of, forest}
use Rattle.tx_origin.specs.Values.{vals, plain}
use Rattle.tx_items.specs.Plans.{plans_of}
use Rattle.tx_items.proofs.plans.Plan.+plan_of.Given as goal

abbrev pub decreases-of : goal.decreases-of
decreases-of l = 3 * depth_of (plain l.value.now) + 2

abbrev pub decreases-joint : goal.decreases-joint
decreases-joint l = 3 * depth_of (plain l.value.now) + 1

abbrev pub decreases-last : goal.decreases-last
decreases-last l = 3 * depth_of (plain l.value.now) + 1

abbrev pub decreases-all : goal.decreases-all
decreases-all l = 3 * depth_of (plain l.value.now)

abbrev pub invariant-all-loop-part : goal.invariant-all-loop-part
invariant-all-loop-part l = forest l.plans.items ≡ plans_of (vals (take l.part-index l.part-items))
