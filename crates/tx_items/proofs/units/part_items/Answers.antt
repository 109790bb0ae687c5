use Rattle.std.proofs.Common.{sym, subst, ◌∙◌}
use Rattle.std.specs.Prelude.{All}
use Rattle.tx_items.specs.Narrow.{IsNarrow}
use Rattle.tx_items.proofs.Narrowing.{part_narrow}
use Rattle.tx_items.proofs.Ending.{part_from, blank_from}
use Rattle.tx_items.proofs.units.part_items.Goals as goal

pub returns-clause-paragraphs : goal.returns-clause-paragraphs
returns-clause-paragraphs c = part_from _ _ _ _ c.is_list-2.result c.args.attrs.now c.args.value.now
    c.in_ok-plan.ensures c.is_list-2.ensures c.in_ok-showing.ensures c.in_ok-show.ensures c.in_ok-finish_part.ensures

pub returns-clause-narrow : goal.returns-clause-narrow
returns-clause-narrow c =
    let same = part_from _ _ _ _ c.is_list-2.result c.args.attrs.now c.args.value.now
    c.in_ok-plan.ensures c.is_list-2.ensures c.in_ok-showing.ensures c.in_ok-show.ensures c.in_ok-finish_part.ensures in
    subst (All (λ p. All IsNarrow p.items)) (sym same) (part_narrow c.args.attrs.now c.args.value.now)

pub returns-clause-blank : goal.returns-clause-blank
returns-clause-blank c = c.is_blank-blank.ensures ∙ blank_from _ _ _ c.is_list.result c.args.attrs.now c.args.value.now
    c.in_ok-plan.ensures c.is_list.ensures c.in_ok-showing.ensures c.in_ok-show.ensures
