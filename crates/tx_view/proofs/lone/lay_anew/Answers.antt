use Rattle.std.proofs.Common.{◌≤◌, arith, refl}
use Rattle.tx_exec.specs.Outcomes.{wide_outcome}
use Rattle.tx_items.specs.Shows.{shown_paragraphs}
use Rattle.tx_view_form.specs.Outcomes.{unit_value}
use Rattle.tx_view_form.specs.Views.{paragraphs_at}
use Rattle.tx_view_form.specs.Weights.{weight_of}
use Rattle.tx_part_layout.specs.LaidParts.{items_in}
use Rattle.tx_unit_layout.proofs.Costing.{items_most}
use Rattle.tx_view.proofs.lone.lay_anew.Goals as goal

pub returns-clause-most : goal.returns-clause-most
returns-clause-most g c =
    let v = unit_value (wide_outcome c.args.outcome.now) in
    let ps = paragraphs_at c.args.unit.now.path c.in_ok-attrs.attrs v in
    let few : items_in ps ≤ weight_of (shown_paragraphs c.in_ok-attrs.attrs v) =
    items_most ps c.args.unit.now.path c.in_ok-attrs.attrs v refl
    (c.weight_laws.ensures.items (shown_paragraphs c.in_ok-attrs.attrs v)) in
    omega (arith, c.in_ok-items.ensures.within, few, c.outcome_weight_law.ensures c.in_ok-attrs.attrs, c.requires.small)
