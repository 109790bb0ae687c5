use Rattle.std.proofs.Common.{sym, ◌∙◌}
use Rattle.tx_units.proofs.Finding.{section_at, no_section}
use Rattle.tx_units.proofs.documents.section.Goals as goal

pub returns-in-Some : goal.returns-in-Some
returns-in-Some c =
    rw (section_at c.args.label.now c.args.t.now c.index-children-i.result c.children.result.now c.in-Some.i
    c.children.ensures
    (sym c.is_document.ensures ∙ c.if-not-is_document.false) (sym c.first_labelled.ensures ∙ c.in-Some.is)
    c.index-children-i.is)
    c.child.ensures

pub returns-in-None : goal.returns-in-None
returns-in-None c =
    no_section c.args.label.now c.args.t.now (sym c.is_document.ensures ∙ c.if-not-is_document.false)
    (sym c.first_labelled.ensures ∙ c.in-None.is)
