-- Each part of a plan is less deep than the plan.
use Rattle.std.specs.Prelude.{◌≤◌, max}
use Rattle.std.proofs.Common.{arith}
use Rattle.tx_tree.specs.WideTree.{depth_of}
use Rattle.tx_tree.specs.Falls.{most_le-deepest}
use Rattle.tx_items.specs.declared.plans.Form.{Form}
use Rattle.tx_items.specs.declared.plans.Form.TheVariants.{Line, List}
use Rattle.tx_items.specs.declared.plans.Plan.TheDeep.{deep-Form}
use Rattle.tx_items.specs.PlanView.{plan_view}

pub plan_falls : (f : Form) → max (deep-Form f) 0 ≤ depth_of (plan_view f)
plan_falls Line = omega arith
plan_falls (List parts) = omega (arith, most_le-deepest parts.items)
