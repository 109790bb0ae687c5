use Rattle.std.proofs.Common.{sym, subst}
use Rattle.std.specs.Prelude.{All}
use Rattle.tx_items.specs.Narrow.{IsNarrow}
use Rattle.tx_items.proofs.Narrowing.{shown_narrow}
use Rattle.tx_items.proofs.Ending.{laid_from, errors_from}
use Rattle.tx_items.proofs.units.items.Goals as goal

pub returns-clause-paragraphs : goal.returns-clause-paragraphs
returns-clause-paragraphs c = laid_from _ _ _ _ c.is_list.result c.args.attrs.now c.args.value.now
    c.in_ok-plan.ensures c.is_list.ensures c.in_ok-showing.ensures c.in_ok-show.ensures c.in_ok-finish.ensures

pub returns-clause-errors : goal.returns-clause-errors
returns-clause-errors c = errors_from _ _ _ _ c.args.attrs.now c.args.value.now c.in_ok-showing.ensures
    c.in_ok-show.ensures c.in_ok-finish.ensures

pub returns-clause-narrow : goal.returns-clause-narrow
returns-clause-narrow c =
    let same = laid_from _ _ _ _ c.is_list.result c.args.attrs.now c.args.value.now
    c.in_ok-plan.ensures c.is_list.ensures c.in_ok-showing.ensures c.in_ok-show.ensures c.in_ok-finish.ensures in
    subst (All (λ p. All IsNarrow p.items)) (sym same) (shown_narrow c.args.attrs.now c.args.value.now)
