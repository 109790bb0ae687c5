use Rattle.std.proofs.Common.{rules, ◌≡◌, false, not, sym, ap, ◌∙◌}
use Rattle.std.proofs.lemmas.Result.{IfOk-weaker}
use Rattle.tx_origin.specs.Values.{vals}
use Rattle.tx_items.specs.Rules.{rule_of}
use Rattle.tx_items.specs.Rules as rules
use Rattle.tx_items.specs.Flat.{all_flat}
use Rattle.tx_items.specs.Running.{all_cells}
use Rattle.tx_items.proofs.FlatLoops.{flat_row, parts_flat, row_not, rows_flat, whole_table}
use Rattle.tx_items.proofs.flat.+flat.Goals as goal

pub all_flat-returns : goal.all_flat-returns
all_flat-returns t c = parts_flat c.args.parts.now c.loop-part.part-index _ c.loop-part-test.false c.loop-part.invariant

pub is_flat-returns-in-Concat : goal.is_flat-returns-in-Concat
is_flat-returns-in-Concat t c =
    let row = flat_row c.args.value.now _ rules.Concat c.in-Some.ensures
    (c.in-Concat.ensures ∙ ap rule_of c.bytes.ensures.bytes) in
    IfOk-weaker c.all_flat.result _ _ (λ b is. is ∙ ap (λ ps. all_flat (vals ps)) c.parts.ensures ∙ sym row)
    c.all_flat.ensures

pub is_flat-returns-in-Other : goal.is_flat-returns-in-Other
is_flat-returns-in-Other t c =
    let row = flat_row c.args.value.now _ rules.Other c.in-Some.ensures
    (c.in-Other.ensures ∙ ap rule_of c.bytes.ensures.bytes) in
    IfOk-weaker c.all_flat-in-Other.result _ _
    (λ b is. is ∙ ap (λ ps. all_flat (vals ps)) c.parts-in-Other.ensures ∙ sym row) c.all_flat-in-Other.ensures

pub is_flat-returns-in-With : goal.is_flat-returns-in-With
is_flat-returns-in-With t c =
    let row = flat_row c.args.value.now _ rules.With c.in-Some.ensures
    (c.in-With.ensures ∙ ap rule_of c.bytes.ensures.bytes) in
    IfOk-weaker c.last_flat.result _ _ (λ b is. is ∙ sym row) c.last_flat.ensures

pub is_flat-returns-in-Document : goal.is_flat-returns-in-Document
is_flat-returns-in-Document t c =
    sym
    (flat_row c.args.value.now _ rules.Document c.in-Some.ensures
    (c.in-Document.ensures ∙ ap rule_of c.bytes.ensures.bytes))

pub is_flat-returns-in-Assign : goal.is_flat-returns-in-Assign
is_flat-returns-in-Assign t c =
    sym
    (flat_row c.args.value.now _ rules.Assign c.in-Some.ensures
    (c.in-Assign.ensures ∙ ap rule_of c.bytes.ensures.bytes))

pub is_flat-returns-in-Silent : goal.is_flat-returns-in-Silent
is_flat-returns-in-Silent t c =
    sym
    (flat_row c.args.value.now _ rules.Silent c.in-Some.ensures
    (c.in-Silent.ensures ∙ ap rule_of c.bytes.ensures.bytes))

pub is_flat-returns-in-NextLine : goal.is_flat-returns-in-NextLine
is_flat-returns-in-NextLine t c =
    sym
    (flat_row c.args.value.now _ rules.NextLine c.in-Some.ensures
    (c.in-NextLine.ensures ∙ ap rule_of c.bytes.ensures.bytes))

pub is_flat-returns-in-NewPage : goal.is_flat-returns-in-NewPage
is_flat-returns-in-NewPage t c =
    sym
    (flat_row c.args.value.now _ rules.NewPage c.in-Some.ensures
    (c.in-NewPage.ensures ∙ ap rule_of c.bytes.ensures.bytes))

pub is_flat-returns-in-Hspace : goal.is_flat-returns-in-Hspace
is_flat-returns-in-Hspace t c =
    sym
    (flat_row c.args.value.now _ rules.Hspace c.in-Some.ensures
    (c.in-Hspace.ensures ∙ ap rule_of c.bytes.ensures.bytes))

pub is_flat-returns-in-Error : goal.is_flat-returns-in-Error
is_flat-returns-in-Error t c =
    sym
    (flat_row c.args.value.now _ rules.Error c.in-Some.ensures
    (c.in-Error.ensures ∙ ap rule_of c.bytes.ensures.bytes))

pub is_flat-returns-in-Vspace : goal.is_flat-returns-in-Vspace
is_flat-returns-in-Vspace t c =
    c.flat_space.ensures
    ∙ sym
    (flat_row c.args.value.now _ rules.Vspace c.in-Some.ensures
    (c.in-Vspace.ensures ∙ ap rule_of c.bytes.ensures.bytes))

pub is_flat-returns-in_ok-shows_table-in-Tabular : goal.is_flat-returns-in_ok-shows_table-in-Tabular
is_flat-returns-in_ok-shows_table-in-Tabular t c =
    ap not c.in_ok-shows_table-in-Tabular.ensures
    ∙ sym
    (flat_row c.args.value.now _ rules.Tabular c.in-Some.ensures
    (c.in-Tabular.ensures ∙ ap rule_of c.bytes.ensures.bytes))

pub shows_table-returns-then-not-branch : goal.shows_table-returns-then-not-branch
shows_table-returns-then-not-branch t c =
    let told = c.in_ok-all_flat.ensures ∙ ap (λ r. all_flat (vals r)) c.all.ensures in
    let no : false ≡ c.in_ok-all_flat.field-0 = search rules in
    row_not c.all-row-items.result.now c.loop-row.row-index c.row-item.result _ c.loop-row-test.true c.row-item.is
    (no ∙ told) c.loop-row.invariant
    ∙ ap (λ rs. all_flat (vals (all_cells rs))) c.all-row-items.ensures
    ∙ whole_table c.args.value.now c.in-Some.grid (sym c.in-Some.is ∙ c.in_ok-grid.ensures)

pub shows_table-returns : goal.shows_table-returns
shows_table-returns t c =
    rows_flat c.all-row-items.result.now c.loop-row.row-index _ c.loop-row-test.false c.loop-row.invariant
    ∙ ap (λ rs. all_flat (vals (all_cells rs))) c.all-row-items.ensures
    ∙ whole_table c.args.value.now c.in-Some.grid (sym c.in-Some.is ∙ c.in_ok-grid.ensures)
