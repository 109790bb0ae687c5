use Rattle.std.proofs.Common.{rules, ◌≡◌, ◌∷◌, [], ◌++◌, drop, length, get_or, sym, ap, ◌∙◌, arith}
use Rattle.std.specs.Vec.Iter.{into_iter_items}
use Rattle.tx_items.specs.Drawing.{paragraph}
use Rattle.tx_items.specs.Tables.{row_widths}
use Rattle.tx_items.specs.Running.{padded_from}
use Rattle.tx_items.proofs.RowsShown.{drop_first, pads_there, plan_fits, row_pushed}
use Rattle.tx_items.proofs.showing.Showing.add_rows.Goals as goal

pub bounds-all-at : goal.bounds-all-at
bounds-all-at c =
    let step : into_iter_items c.loop-row.row-iterator ≡ c.in-Some.row ∷ into_iter_items c.next.new.self =
    search rules in
    let widths = c.deref-2.ensures.value ∙ c.in_ok-widths.ensures ∙ ap row_widths c.deref.ensures.value in
    let there = pads_there c.args.rows.items c.args.sides.now c.deref-2.result.now c.in_ok-plan.plan c.loop-row.at
    c.in-Some.row (into_iter_items c.next.new.self) c.requires widths c.in_ok-plan.ensures
    (sym c.loop-row.invariant.left ∙ step) in
    omega (arith, there.0, ap length c.all-in-loop-row.ensures)

pub bounds-all-at-in-loop-row : goal.bounds-all-at-in-loop-row
bounds-all-at-in-loop-row c =
    let step : into_iter_items c.loop-row.row-iterator ≡ c.in-Some.row ∷ into_iter_items c.next.new.self =
    search rules in
    let widths = c.deref-2.ensures.value ∙ c.in_ok-widths.ensures ∙ ap row_widths c.deref.ensures.value in
    let there = pads_there c.args.rows.items c.args.sides.now c.deref-2.result.now c.in_ok-plan.plan c.loop-row.at
    c.in-Some.row (into_iter_items c.next.new.self) c.requires widths c.in_ok-plan.ensures
    (sym c.loop-row.invariant.left ∙ step) in
    omega (arith, there.1, ap length c.all-in-loop-row-3.ensures)

pub padded-requires-clause-columns : goal.padded-requires-clause-columns
padded-requires-clause-columns c =
    let step : into_iter_items c.loop-row.row-iterator ≡ c.in-Some.row ∷ into_iter_items c.next.new.self =
    search rules in
    let widths = c.deref-2.ensures.value ∙ c.in_ok-widths.ensures ∙ ap row_widths c.deref.ensures.value in
    let l = c.index-all-at.result in
    let r = c.index-all-at-in-loop-row.result in
    let fits = plan_fits c.args.rows.items c.args.sides.now c.deref-2.result.now c.in_ok-plan.plan c.loop-row.at
    c.in-Some.row (into_iter_items c.next.new.self) l r c.requires widths c.in_ok-plan.ensures
    (sym c.loop-row.invariant.left ∙ step)
    (c.index-all-at.is ∙ ap (λ xs. get_or xs c.loop-row.at l) c.all-in-loop-row.ensures)
    (c.index-all-at-in-loop-row.is ∙ ap (λ xs. get_or xs c.loop-row.at r) c.all-in-loop-row-3.ensures) in
    omega (arith, fits.columns_there, ap length c.all.ensures)

pub padded-requires-clause-left : goal.padded-requires-clause-left
padded-requires-clause-left c =
    let step : into_iter_items c.loop-row.row-iterator ≡ c.in-Some.row ∷ into_iter_items c.next.new.self =
    search rules in
    let widths = c.deref-2.ensures.value ∙ c.in_ok-widths.ensures ∙ ap row_widths c.deref.ensures.value in
    let l = c.index-all-at.result in
    let r = c.index-all-at-in-loop-row.result in
    let fits = plan_fits c.args.rows.items c.args.sides.now c.deref-2.result.now c.in_ok-plan.plan c.loop-row.at
    c.in-Some.row (into_iter_items c.next.new.self) l r c.requires widths c.in_ok-plan.ensures
    (sym c.loop-row.invariant.left ∙ step)
    (c.index-all-at.is ∙ ap (λ xs. get_or xs c.loop-row.at l) c.all-in-loop-row.ensures)
    (c.index-all-at-in-loop-row.is ∙ ap (λ xs. get_or xs c.loop-row.at r) c.all-in-loop-row-3.ensures) in
    ap length c.all-in-loop-row-2.ensures ∙ fits.left_there

pub padded-requires-clause-right : goal.padded-requires-clause-right
padded-requires-clause-right c =
    let step : into_iter_items c.loop-row.row-iterator ≡ c.in-Some.row ∷ into_iter_items c.next.new.self =
    search rules in
    let widths = c.deref-2.ensures.value ∙ c.in_ok-widths.ensures ∙ ap row_widths c.deref.ensures.value in
    let l = c.index-all-at.result in
    let r = c.index-all-at-in-loop-row.result in
    let fits = plan_fits c.args.rows.items c.args.sides.now c.deref-2.result.now c.in_ok-plan.plan c.loop-row.at
    c.in-Some.row (into_iter_items c.next.new.self) l r c.requires widths c.in_ok-plan.ensures
    (sym c.loop-row.invariant.left ∙ step)
    (c.index-all-at.is ∙ ap (λ xs. get_or xs c.loop-row.at l) c.all-in-loop-row.ensures)
    (c.index-all-at-in-loop-row.is ∙ ap (λ xs. get_or xs c.loop-row.at r) c.all-in-loop-row-3.ensures) in
    ap length c.all-in-loop-row-4.ensures ∙ fits.right_there

pub loop-row-preserved : goal.loop-row-preserved
loop-row-preserved c =
    let step : into_iter_items c.loop-row.row-iterator ≡ c.in-Some.row ∷ into_iter_items c.next.new.self =
    search rules in
    let widths = c.deref-2.ensures.value ∙ c.in_ok-widths.ensures ∙ ap row_widths c.deref.ensures.value in
    let at = c.loop-row.at in
    let l = c.index-all-at.result in
    let r = c.index-all-at-in-loop-row.result in
    let left = sym c.loop-row.invariant.left ∙ step in
    let there = pads_there c.args.rows.items c.args.sides.now c.deref-2.result.now c.in_ok-plan.plan at c.in-Some.row
    (into_iter_items c.next.new.self) c.requires widths c.in_ok-plan.ensures left in
    let fits = plan_fits c.args.rows.items c.args.sides.now c.deref-2.result.now c.in_ok-plan.plan at c.in-Some.row
    (into_iter_items c.next.new.self) l r c.requires widths c.in_ok-plan.ensures left
    (c.index-all-at.is ∙ ap (λ xs. get_or xs at l) c.all-in-loop-row.ensures)
    (c.index-all-at-in-loop-row.is ∙ ap (λ xs. get_or xs at r) c.all-in-loop-row-3.ensures) in
    let cells = c.in-Some.row.1 in
    let items = c.in_ok-items.ensures
    ∙ ap (λ cs. padded_from 0 cs c.all-in-loop-row-2.result.now c.all-in-loop-row-4.result.now cells) c.all.ensures
    ∙ ap (λ ls. padded_from 0 c.in_ok-plan.plan.columns ls c.all-in-loop-row-4.result.now cells)
    c.all-in-loop-row-2.ensures
    ∙ ap (λ rs. padded_from 0 c.in_ok-plan.plan.columns l rs cells) c.all-in-loop-row-4.ensures ∙ fits.padded in
    record {
      left = (drop_first c.args.rows.items at c.in-Some.row (into_iter_items c.next.new.self) left).2;
      added = row_pushed c.in_ok-plan.plan.columns c.args.sides.now at c.in-Some.row
          (into_iter_items c.next.new.self) _ _ _ c.in_ok-items.items.items there.2 items
          (rw step at c.loop-row.invariant.added)
          (c.in_ok-push.ensures.items ∙ ap (λ p. c.loop-row.self.paragraphs.items ++ p ∷ []) c.in_ok-new.ensures);
      attrs = c.loop-row.invariant.attrs;
      run = c.loop-row.invariant.run;
      first = c.loop-row.invariant.first;
      errors = c.loop-row.invariant.errors;
    }
