use Rattle.std.proofs.Common.{get_or, sym, ap, ◌∙◌}
use Rattle.tx_items.proofs.PlanViews.{line_part, list_children, view_parts}
use Rattle.tx_items.proofs.plans.Plan.part.Goals as goal

pub returns-in-Line : goal.returns-in-Line
returns-in-Line c = line_part c.args.self.now c.self.inside.form c.args.i (sym c.self.view_is) c.in-Line.is

pub returns-in-List : goal.returns-in-List
returns-in-List c =
    let children = list_children c.args.self.now c.self.inside.form (sym c.self.view_is) ∙ ap view_parts c.in-List.is in
    c.item_or.ensures ∙ ap (λ ps. get_or ps c.args.i c.args.self.now) (c.deref.ensures.value ∙ sym children)
