use Rattle.std.proofs.Common.{[], refl, sym, ap, ◌∙◌}
use Rattle.std.specs.Prelude.{true, false, is_some}
use Rattle.tx_view.proofs.Finding.{marks_within, within_join, one_paragraph}
use Rattle.tx_view.proofs.Stopping.{have_some, some_next, some_within, none_left}
use Rattle.tx_view.proofs.spots.have_mark.Goals as goal

pub returns-then-is_some : goal.returns-then-is_some
returns-then-is_some c =
    sym (some_next (marks_within []) (within_join []) c.args.paragraphs.now
    (have_some (marks_within [] c.args.paragraphs.now)) true c.loop-paragraph.paragraph-index
    c.paragraph-item.result c.loop-paragraph-test.true c.paragraph-item.is
    (sym c.if-is_some.true ∙ c.is_some.ensures ∙ ap is_some c.first_mark.ensures
    ∙ ap have_some (one_paragraph [] c.paragraph-item.result c.all.result.now c.all.ensures))
    c.loop-paragraph.invariant)
    ∙ some_within [] c.args.paragraphs.now

pub loop-paragraph-preserved : goal.loop-paragraph-preserved
loop-paragraph-preserved c =
    some_next (marks_within []) (within_join []) c.args.paragraphs.now
    (have_some (marks_within [] c.args.paragraphs.now)) false c.loop-paragraph.paragraph-index
    c.paragraph-item.result c.loop-paragraph-test.true c.paragraph-item.is
    (sym c.if-is_some.false ∙ c.is_some.ensures ∙ ap is_some c.first_mark.ensures
    ∙ ap have_some (one_paragraph [] c.paragraph-item.result c.all.result.now c.all.ensures))
    c.loop-paragraph.invariant

pub returns : goal.returns
returns c =
    sym (c.loop-paragraph.invariant
    ∙ none_left (marks_within []) c.args.paragraphs.now c.loop-paragraph.paragraph-index refl
    c.loop-paragraph-test.false)
    ∙ some_within [] c.args.paragraphs.now
