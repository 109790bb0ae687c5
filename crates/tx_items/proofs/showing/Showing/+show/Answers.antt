use Rattle.std.proofs.Common.{refl, sym, ap, ◌∙◌, true, subst, List, [], ◌∷◌, ◌++◌, map, length}
use Rattle.std.proofs.lemmas.Result.{on_ok_weaker}
use Rattle.tx_origin.specs.Values.{vals, value_parts}
use Rattle.tx_items.specs.declared.attributes.Attrs.{Attrs}
use Rattle.tx_items.specs.Rules.{rule_of}
use Rattle.tx_items.specs.Rules as rules
use Rattle.tx_items.specs.declared.drawing.Item.{Item}
use Rattle.tx_items.specs.Shows.{Shown, show, show_all, with_shown, one_of, run_of}
use Rattle.tx_items.specs.Running.{state_of, HasShown, HasRun, HasCells}
use Rattle.tx_items.proofs.Runs.{part_inline, part_listed, run_joined, run_nothing, run_tag, each_more, each_done}
use Rattle.tx_items.proofs.Documents.{par_inline, par_listed, pars_document, pars_next, pars_done}
use Rattle.tx_items.proofs.Planning.{inline_by_plan, list_by_plan}
use Rattle.tx_items.proofs.ByRule.{show_text, show_row, copied_origin}
use Rattle.tx_items.proofs.Pairs.{with_even, with_whole}
use Rattle.tx_items.proofs.FlatLoops.{table_not, table_there}
use Rattle.tx_items.proofs.RowsShown.{cell_taken, cells_pushed, cells_more, cells_done, cells_whole, rows_pushed}
use Rattle.tx_items.proofs.RowsShown.{rows_more, rows_done, rows_whole, shown_bad, rows_long, table_added}
use Rattle.tx_items.proofs.showing.Showing.+show.Goals as goal

pub part-returns-then-not-is_list : goal.part-returns-then-not-is_list
part-returns-then-not-is_list t c =
    on_ok_weaker c.show.result
    (part_inline _ _ _
    (inline_by_plan c.args.self.now.attrs c.args.part.now c.args.plan.now c.requires c.if-not-is_list.ensures))
    c.show.ensures

pub part-returns : goal.part-returns
part-returns t c =
    let P : Attrs → Type 0 = λ a. HasShown (show a c.args.part.now) (state_of c.end_run.new.self)
    (state_of c.show-2.new.self) in
    on_ok_weaker c.end_run-2.result
    (part_listed _ _ _ _ _
    (list_by_plan c.args.self.now.attrs c.args.part.now c.args.plan.now c.requires c.if-not-is_list.ensures)
    c.in_ok-end_run.ensures (subst P c.in_ok-end_run.ensures.attrs c.in_ok-show.ensures)) c.end_run-2.ensures

pub paragraph-returns-then-is_list : goal.paragraph-returns-then-is_list
paragraph-returns-then-is_list t c =
    on_ok_weaker c.end_run.result
    (par_listed _ _ _ _
    (list_by_plan c.args.self.now.attrs c.args.part.now c.args.plan.now c.requires c.if-is_list.ensures)
    c.in_ok-show.ensures) c.end_run.ensures

pub paragraph-returns : goal.paragraph-returns
paragraph-returns t c =
    on_ok_weaker c.end_paragraph.result
    (par_inline _ _ _ _
    (inline_by_plan c.args.self.now.attrs c.args.part.now c.args.plan.now c.requires c.if-is_list.ensures)
    c.in_ok-show.ensures) c.end_paragraph.ensures

pub document-loop-i-preserved : goal.document-loop-i-preserved
document-loop-i-preserved t c = λ w rest.
    c.loop-i.invariant w (pars_next _ _ _ _ _ _ c.loop-i-test.true c.index-parts-i.is c.in_ok-paragraph.ensures rest)

pub document-returns : goal.document-returns
document-returns t c =
    rw (← c.parts-parts.ensures)
    (c.loop-i.invariant (state_of c.loop-i.self) (pars_done _ _ (state_of c.loop-i.self) c.loop-i-test.false))

pub each-loop-i-preserved : goal.each-loop-i-preserved
each-loop-i-preserved t c = λ w rest.
    c.loop-i.invariant w
    (each_more _ _ _ _ _ _ _ _ c.loop-i-test.true c.index-parts-i.is c.in_ok-add_bar.ensures c.in_ok-part.ensures rest)

pub each-returns : goal.each-returns
each-returns t c =
    rw (← c.parts-parts.ensures)
    (c.loop-i.invariant (state_of c.loop-i.self) (each_done _ _ _ (state_of c.loop-i.self) c.loop-i-test.false))

pub show-returns-in-Some : goal.show-returns-in-Some
show-returns-in-Some t c =
    let P : Shown → Type 0 = λ x. HasShown x (state_of c.args.self.now) (state_of c.add_text.new.self) in
    let is = show_text c.args.self.now.attrs c.args.value.now _ _ c.in-Some.ensures
    (copied_origin c.args.value.now c.origin.result c.origin.ensures) in
    on_ok_weaker c.add_text.result (λ h. subst P (sym is) h) c.add_text.ensures

pub show-returns-in-Concat : goal.show-returns-in-Concat
show-returns-in-Concat t c =
    let P : Shown → Type 0 = λ x. HasShown x (state_of c.args.self.now) (state_of c.each.new.self) in
    let row = show_row c.args.self.now.attrs c.args.value.now _ rules.Concat c.in-Some-label.ensures
    (c.in-Concat.ensures ∙ ap rule_of c.bytes.ensures.bytes) in
    on_ok_weaker c.each.result (λ h. subst P (sym row) (run_joined _ _ _ h)) c.each.ensures

pub show-returns-in-Document : goal.show-returns-in-Document
show-returns-in-Document t c =
    let P : Shown → Type 0 = λ x. HasShown x (state_of c.args.self.now) (state_of c.document.new.self) in
    let row = show_row c.args.self.now.attrs c.args.value.now _ rules.Document c.in-Some-label.ensures
    (c.in-Document.ensures ∙ ap rule_of c.bytes.ensures.bytes) in
    on_ok_weaker c.document.result (λ h. subst P (sym row) (pars_document _ _ _ h)) c.document.ensures

pub show-returns-in-With : goal.show-returns-in-With
show-returns-in-With t c =
    let P : Shown → Type 0 = λ x. HasShown x (state_of c.args.self.now) (state_of c.with.new.self) in
    let row = show_row c.args.self.now.attrs c.args.value.now _ rules.With c.in-Some-label.ensures
    (c.in-With.ensures ∙ ap rule_of c.bytes.ensures.bytes) in
    on_ok_weaker c.with.result (λ h. subst P (sym row) h) c.with.ensures

pub show-returns-in-Assign : goal.show-returns-in-Assign
show-returns-in-Assign t c =
    let P : Shown → Type 0 = λ x. HasShown x (state_of c.args.self.now) (state_of c.assign.new.self) in
    let row = show_row c.args.self.now.attrs c.args.value.now _ rules.Assign c.in-Some-label.ensures
    (c.in-Assign.ensures ∙ ap rule_of c.bytes.ensures.bytes) in
    on_ok_weaker c.assign.result (λ h. subst P (sym row) h) c.assign.ensures

pub show-returns-in-NextLine : goal.show-returns-in-NextLine
show-returns-in-NextLine t c =
    let P : Shown → Type 0 = λ x. HasShown x (state_of c.args.self.now) (state_of c.add_item.new.self) in
    let row = show_row c.args.self.now.attrs c.args.value.now _ rules.NextLine c.in-Some-label.ensures
    (c.in-NextLine.ensures ∙ ap rule_of c.bytes.ensures.bytes) in
    on_ok_weaker c.add_item.result (λ h. subst P (sym row) h) c.add_item.ensures

pub show-returns-in-NewPage : goal.show-returns-in-NewPage
show-returns-in-NewPage t c =
    let P : Shown → Type 0 = λ x. HasShown x (state_of c.args.self.now) (state_of c.add_item-in-NewPage.new.self) in
    let row = show_row c.args.self.now.attrs c.args.value.now _ rules.NewPage c.in-Some-label.ensures
    (c.in-NewPage.ensures ∙ ap rule_of c.bytes.ensures.bytes) in
    on_ok_weaker c.add_item-in-NewPage.result (λ h. subst P (sym row) h) c.add_item-in-NewPage.ensures

pub show-returns-in-Hspace : goal.show-returns-in-Hspace
show-returns-in-Hspace t c =
    let P : Shown → Type 0 = λ x. HasShown x (state_of c.args.self.now) (state_of c.space.new.self) in
    let row = show_row c.args.self.now.attrs c.args.value.now _ rules.Hspace c.in-Some-label.ensures
    (c.in-Hspace.ensures ∙ ap rule_of c.bytes.ensures.bytes) in
    on_ok_weaker c.space.result (λ h. subst P (sym row) h) c.space.ensures

pub show-returns-in-Vspace : goal.show-returns-in-Vspace
show-returns-in-Vspace t c =
    let P : Shown → Type 0 = λ x. HasShown x (state_of c.args.self.now) (state_of c.space-in-Vspace.new.self) in
    let row = show_row c.args.self.now.attrs c.args.value.now _ rules.Vspace c.in-Some-label.ensures
    (c.in-Vspace.ensures ∙ ap rule_of c.bytes.ensures.bytes) in
    on_ok_weaker c.space-in-Vspace.result (λ h. subst P (sym row) h) c.space-in-Vspace.ensures

pub show-returns-in-Error : goal.show-returns-in-Error
show-returns-in-Error t c =
    let P : Shown → Type 0 = λ x. HasShown x (state_of c.args.self.now) (state_of c.error.new.self) in
    let row = show_row c.args.self.now.attrs c.args.value.now _ rules.Error c.in-Some-label.ensures
    (c.in-Error.ensures ∙ ap rule_of c.bytes.ensures.bytes) in
    on_ok_weaker c.error.result (λ h. subst P (sym row) h) c.error.ensures

pub show-returns-in-Tabular : goal.show-returns-in-Tabular
show-returns-in-Tabular t c =
    let P : Shown → Type 0 = λ x. HasShown x (state_of c.args.self.now) (state_of c.tabular.new.self) in
    let row = show_row c.args.self.now.attrs c.args.value.now _ rules.Tabular c.in-Some-label.ensures
    (c.in-Tabular.ensures ∙ ap rule_of c.bytes.ensures.bytes) in
    on_ok_weaker c.tabular.result (λ h. subst P (sym row) h) c.tabular.ensures

pub show-returns-in-Other : goal.show-returns-in-Other
show-returns-in-Other t c =
    let P : Shown → Type 0 = λ x. HasShown x (state_of c.args.self.now) (state_of c.tag.new.self) in
    let row = show_row c.args.self.now.attrs c.args.value.now _ rules.Other c.in-Some-label.ensures
    (c.in-Other.ensures ∙ ap rule_of c.bytes.ensures.bytes) in
    on_ok_weaker c.tag.result (λ h. subst P (sym row) h) c.tag.ensures

pub tag-returns : goal.tag-returns
tag-returns t c =
    let all = show_all true c.args.self.now.attrs (vals (value_parts c.args.value.now)) in
    let front = c.in_ok-begin_tag.ensures in
    let P : Attrs → Type 0 = λ a.
    HasRun (show_all true a (vals (value_parts c.args.value.now))) (state_of c.begin_tag.new.self)
    (state_of c.each.new.self) in
    on_ok_weaker c.add_word.result
    (run_tag c.args.label.now all (state_of c.args.self.now) (state_of c.begin_tag.new.self) (state_of c.each.new.self)
    (state_of c.add_word.new.self) front (subst P front.after c.in_ok-each.ensures)) c.add_word.ensures

pub with-returns-then-parts-eq0 : goal.with-returns-then-parts-eq0
with-returns-then-parts-eq0 t c =
    let same = c.parts-parts.ensures in
    let a = c.args.self.now.attrs in
    let P : Shown → Type 0 = λ x. HasShown x (state_of c.args.self.now) (state_of c.bad.new.self) in
    let none = with_even a a (value_parts c.args.value.now) (rw same at c.if-parts-eq0.true) in
    on_ok_weaker c.bad.result (λ h. subst P (sym (ap (with_shown a c.args.label.now) none)) h) c.bad.ensures

pub with-returns : goal.with-returns
with-returns t c =
    rw (← c.parts-parts.ensures)
    (on_ok_weaker c.give_back_pairs.result
    (λ back. with_whole c.parts-parts.result.now c.index-parts-parts.result c.args.label.now (state_of c.args.self.now)
    (state_of c.set_pairs.new.self) (state_of c.show.new.self) (state_of c.give_back_pairs.new.self)
    c.in_ok-before.before c.in_ok-before.ensures c.if-parts-eq0.false c.index-parts-parts.is c.in_ok-set_pairs.ensures
    c.in_ok-show.ensures back) c.give_back_pairs.ensures)

pub show-returns-in-Silent : goal.show-returns-in-Silent
show-returns-in-Silent t c =
    let P : Shown → Type 0 = λ x. HasShown x (state_of c.args.self.now) (state_of c.args.self.now) in
    let row = show_row c.args.self.now.attrs c.args.value.now _ rules.Silent c.in-Some-label.ensures
    (c.in-Silent.ensures ∙ ap rule_of c.bytes.ensures.bytes) in
    subst P (sym row) (run_nothing (state_of c.args.self.now))

pub cell-returns : goal.cell-returns
cell-returns t c =
    let P : List Item → Type 0 = λ xs.
    HasCells (one_of (show c.args.self.now.attrs c.args.value.now)) (state_of c.args.self.now) (state_of record {
      attrs = c.show-2.new.self.attrs;
      first = c.show-2.new.self.first;
      run = c.replace.new.dest;
      paragraphs = c.show-2.new.self.paragraphs;
      errors = c.show-2.new.self.errors;
    }) (xs ∷ []) in
    let gone = ap (λ v. run_of c.show-2.new.self.first v.items) c.replace.ensures.after
    ∙ ap (run_of c.show-2.new.self.first) c.new.ensures.items in
    subst P (sym (c.new-2.ensures ∙ ap (λ v. v.items) c.replace.ensures.value))
    (cell_taken c.args.value.now c.show-2.new.self.first c.show-2.new.self.run.items (state_of c.args.self.now)
    (state_of c.show-2.new.self) _ c.requires c.in_ok-show.ensures refl refl refl refl gone)

pub row-loop-cell-preserved : goal.row-loop-cell-preserved
row-loop-cell-preserved t c = λ w more rest.
    cells_pushed _ _ _ c.loop-cell.row.items c.push.new.self.items more c.in_ok-items.items
    (c.loop-cell.invariant w (c.in_ok-items.items ∷ more)
    (cells_more c.args.cells.now c.loop-cell.cell-index c.cell-item.result (state_of c.loop-cell.self)
    (state_of c.cell.new.self) w c.in_ok-items.items more c.loop-cell-test.true c.cell-item.is c.in_ok-items.ensures
    rest)) c.in_ok-push.ensures.items

pub row-returns : goal.row-returns
row-returns t c =
    cells_whole _ _ _ c.loop-cell.row.items c.new.result
    (c.loop-cell.invariant (state_of c.loop-cell.self) []
    (cells_done c.args.cells.now c.loop-cell.cell-index (state_of c.loop-cell.self) c.loop-cell-test.false))
    c.new.ensures

pub rows-loop-row-preserved : goal.rows-loop-row-preserved
rows-loop-row-preserved t c = λ w more rest.
    let cells = rw c.all.ensures at c.in_ok-cells.ensures in
    rows_pushed _ _ _ c.loop-row.shown.items c.push.new.self.items more (c.loop-row.self.attrs, c.in_ok-cells.cells)
    (c.loop-row.invariant w ((c.loop-row.self.attrs, c.in_ok-cells.cells) ∷ more)
    (rows_more c.args.rows.now c.loop-row.row-index c.row-item.result (state_of c.loop-row.self)
    (state_of c.row.new.self) w c.in_ok-cells.cells more c.loop-row-test.true c.row-item.is cells rest))
    (c.in_ok-push.ensures.items
    ∙ ap (λ a. c.loop-row.shown.items ++ (a, c.in_ok-cells.cells) ∷ []) c.in_ok-first.ensures)

pub rows-returns : goal.rows-returns
rows-returns t c =
    rows_whole _ _ _ c.loop-row.shown.items
    (c.loop-row.invariant (state_of c.loop-row.self) []
    (rows_done c.args.rows.now c.loop-row.row-index (state_of c.loop-row.self) c.loop-row-test.false))

pub tabular-returns-then-not-is_list : goal.tabular-returns-then-not-is_list
tabular-returns-then-not-is_list t c =
    let P : Shown → Type 0 = λ x. HasShown x (state_of c.args.self.now) (state_of c.bad.new.self) in
    let is = shown_bad c.args.self.now.attrs c.args.label.now c.args.value.now
    (table_not c.args.value.now c.args.plan.now c.requires c.if-not-is_list.ensures) in
    on_ok_weaker c.bad.result (λ h. subst P (sym is) h) c.bad.ensures

pub tabular-add_rows-requires : goal.tabular-add_rows-requires
tabular-add_rows-requires t c =
    let rows = rw c.all-cells.ensures at c.in_ok-rows.ensures in
    rows_long c.args.value.now c.in-Some.grid _ _ c.in_ok-rows.rows.items (sym c.in-Some.is ∙ c.in_ok-grid.ensures) rows
    ∙ ap (map length) (sym c.all-sides.ensures)

pub tabular-returns : goal.tabular-returns
tabular-returns t c =
    let rows = rw c.all-cells.ensures at c.in_ok-rows.ensures in
    let added = rw c.all-sides.ensures at c.add_rows.ensures in
    on_ok_weaker c.add_rows.result
    (table_added c.args.label.now c.args.value.now c.in-Some.grid (state_of c.args.self.now) (state_of c.rows.new.self)
    (state_of c.add_rows.new.self) c.in_ok-rows.rows.items (sym c.in-Some.is ∙ c.in_ok-grid.ensures)
    (table_there c.args.value.now c.args.plan.now c.requires c.if-not-is_list.ensures) rows) added
