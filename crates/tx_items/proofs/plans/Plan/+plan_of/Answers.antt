use Rattle.std.proofs.Common.{sym, ap, ◌∙◌}
use Rattle.std.proofs.lemmas.Result.{IfOk-weaker}
use Rattle.tx_items.specs.Rules.{rule_of}
use Rattle.tx_items.specs.Rules as rules
use Rattle.tx_items.specs.Plans.{list_plan}
use Rattle.tx_items.proofs.Planning.{plan_row}
use Rattle.tx_items.proofs.plans.Plan.+plan_of.Goals as goal

pub of-returns-in-Concat : goal.of-returns-in-Concat
of-returns-in-Concat t c =
    let row = plan_row c.args.value.now _ rules.Concat c.in-Some.ensures
    (c.in-Concat.ensures ∙ ap rule_of c.bytes.ensures.bytes) in
    IfOk-weaker c.joint.result _ _ (λ p is. is ∙ sym row) c.joint.ensures

pub of-returns-in-Other : goal.of-returns-in-Other
of-returns-in-Other t c =
    let row = plan_row c.args.value.now _ rules.Other c.in-Some.ensures
    (c.in-Other.ensures ∙ ap rule_of c.bytes.ensures.bytes) in
    IfOk-weaker c.joint-in-Other.result _ _ (λ p is. is ∙ sym row) c.joint-in-Other.ensures

pub of-returns-in-With : goal.of-returns-in-With
of-returns-in-With t c =
    let row = plan_row c.args.value.now _ rules.With c.in-Some.ensures
    (c.in-With.ensures ∙ ap rule_of c.bytes.ensures.bytes) in
    IfOk-weaker c.last.result _ _ (λ p is. is ∙ sym row) c.last.ensures

pub of-returns-in_ok-all-in-Document : goal.of-returns-in_ok-all-in-Document
of-returns-in_ok-all-in-Document t c =
    let row = plan_row c.args.value.now _ rules.Document c.in-Some.ensures
    (c.in-Document.ensures ∙ ap rule_of c.bytes.ensures.bytes) in
    c.list.ensures ∙ ap list_plan c.in_ok-all-in-Document.ensures ∙ sym row

pub of-returns-in-Assign : goal.of-returns-in-Assign
of-returns-in-Assign t c =
    c.line-in-Assign.ensures
    ∙ sym (plan_row c.args.value.now _ rules.Assign c.in-Some.ensures
    (c.in-Assign.ensures ∙ ap rule_of c.bytes.ensures.bytes))

pub of-returns-in-Silent : goal.of-returns-in-Silent
of-returns-in-Silent t c =
    c.line-in-Silent.ensures
    ∙ sym (plan_row c.args.value.now _ rules.Silent c.in-Some.ensures
    (c.in-Silent.ensures ∙ ap rule_of c.bytes.ensures.bytes))

pub of-returns-in-NextLine : goal.of-returns-in-NextLine
of-returns-in-NextLine t c =
    c.line-in-NextLine.ensures
    ∙ sym (plan_row c.args.value.now _ rules.NextLine c.in-Some.ensures
    (c.in-NextLine.ensures ∙ ap rule_of c.bytes.ensures.bytes))

pub of-returns-in-NewPage : goal.of-returns-in-NewPage
of-returns-in-NewPage t c =
    c.line-in-NewPage.ensures
    ∙ sym (plan_row c.args.value.now _ rules.NewPage c.in-Some.ensures
    (c.in-NewPage.ensures ∙ ap rule_of c.bytes.ensures.bytes))

pub of-returns-in-Hspace : goal.of-returns-in-Hspace
of-returns-in-Hspace t c =
    c.line-in-Hspace.ensures
    ∙ sym (plan_row c.args.value.now _ rules.Hspace c.in-Some.ensures
    (c.in-Hspace.ensures ∙ ap rule_of c.bytes.ensures.bytes))

pub of-returns-in-Vspace : goal.of-returns-in-Vspace
of-returns-in-Vspace t c =
    c.line-in-Vspace.ensures
    ∙ sym (plan_row c.args.value.now _ rules.Vspace c.in-Some.ensures
    (c.in-Vspace.ensures ∙ ap rule_of c.bytes.ensures.bytes))

pub of-returns-in-Error : goal.of-returns-in-Error
of-returns-in-Error t c =
    c.line-in-Error.ensures
    ∙ sym (plan_row c.args.value.now _ rules.Error c.in-Some.ensures
    (c.in-Error.ensures ∙ ap rule_of c.bytes.ensures.bytes))

pub of-returns-in-Tabular : goal.of-returns-in-Tabular
of-returns-in-Tabular t c =
    let row = plan_row c.args.value.now _ rules.Tabular c.in-Some.ensures
    (c.in-Tabular.ensures ∙ ap rule_of c.bytes.ensures.bytes) in
    IfOk-weaker c.table.result _ _ (λ p is. is ∙ sym row) c.table.ensures
