use Rattle.std.proofs.Common.{◌≡◌, arith, ap, sym, ◌∙◌, true, false}
use Rattle.std.specs.Prelude.{codes}
use Rattle.tx_table.specs.Settings.{is_text}
use Rattle.tx_table.proofs.Gathering.{six_set, six_none, other_parts}
use Rattle.tx_table.proofs.settings.setting_from.Goals as goal

pub returns-then-parts-ne6 : goal.returns-then-parts-ne6
returns-then-parts-ne6 c = other_parts c.args.rows c.args.columns c.args.parts.now (λ e. absurd (omega arith))

pub returns-then-is_text : goal.returns-then-is_text
returns-then-is_text c =
    let name = c.index-parts-4.result in
    let is : is_text (codes "cell-halign") name ≡ true =
    ap (λ words. is_text words name) (sym c.as_slice.ensures) ∙ sym c.is_text.ensures ∙ c.if-is_text.true in
    rw (c.setting_by.ensures, c.span_of.ensures, c.span_of-then-is_text.ensures, c.side_in.ensures)
    (six_set c.args.rows c.args.columns c.args.parts.now c.index-parts-0.result c.index-parts-1.result
    c.index-parts-2.result c.index-parts-3.result name c.index-parts-5.result c.if-parts-ne6.false c.index-parts-0.is
    c.index-parts-1.is c.index-parts-2.is c.index-parts-3.is c.index-parts-4.is c.index-parts-5.is is)

pub returns-else-is_text : goal.returns-else-is_text
returns-else-is_text c =
    let name = c.index-parts-4.result in
    let is : is_text (codes "cell-halign") name ≡ false =
    ap (λ words. is_text words name) (sym c.as_slice.ensures) ∙ sym c.is_text.ensures ∙ c.if-is_text.false in
    six_none c.args.rows c.args.columns c.args.parts.now name c.if-parts-ne6.false c.index-parts-4.is is
