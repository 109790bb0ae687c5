use Rattle.std.proofs.Common.{List, get_or, sym, ap, subst, ◌∙◌}
use Rattle.std.specs.Prelude.{Some, option_copied}
use Rattle.tx_unit_layout.specs.Stretches.{WideStretch, part_or_root}
use Rattle.tx_unit_layout.specs.declared.shown.Shown.{Shown}
use Rattle.tx_view.specs.Rows.{HasRow}
use Rattle.tx_view.specs.WholeViews.{WholeView}
use Rattle.tx_view.proofs.Reading.{line_read}
use Rattle.tx_view.proofs.view.View.line.Goals as goal

pub returns : goal.returns
returns c =
    let w : WideStretch = record {
      part = part_or_root (option_copied c.stretch-2.inside.part);
      paragraphs = c.stretch-2.inside.paragraphs.now;
      lines = c.stretch-2.inside.lines.now;
    } in
    let x : Shown = c.index-shown.result.now in
    line_read c.args.self.now c.self.inside.units.items c.args.r c.in_ok-unit.unit c.in_ok-unit.number x
    c.line_in-stretch.result w c.get.result _ (ap (λ (v : WholeView). v.shown.units) (sym c.self.view_is))
    (ap (λ (v : WholeView). v.row_parts) (sym c.self.view_is)) c.index-shown.ensures
    (subst (λ (xs : List Shown). HasRow xs c.args.r (get_or xs c.in_ok-unit.unit x) c.in_ok-unit.number)
    c.deref-2.ensures.value (c.in_ok-unit.ensures.1 x)) c.line_in-stretch.ensures
    (c.stretch.ensures ∙ ap Some (sym c.stretch-2.view_is)) c.get.ensures.lookup.3 c.get.ensures.lookup.1
