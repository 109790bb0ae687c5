use Rattle.std.proofs.Common.{◌≤◌, ◌∙◌, ◌++◌, List, ap, sym, arith}
use Rattle.tx_items.specs.Shows.{shown_paragraphs}
use Rattle.tx_view_form.specs.Weights.{weight_of}
use Rattle.tx_part_layout.specs.LaidParts.{items_in, placed_paragraphs}
use Rattle.tx_part_layout.specs.declared.laid.PlacedPart.{PlacedPart}
use Rattle.tx_unit_layout.proofs.Costing.{items_most}
use Rattle.tx_unit_layout.proofs.whole.lay_whole.Goals as goal

pub item_count-items-requires : goal.item_count-items-requires
item_count-items-requires g c =
    let few : items_in c.deref.result.now ≤ weight_of (shown_paragraphs c.args.attrs c.args.value.now) =
    items_most c.deref.result.now c.args.shown.now.path c.args.attrs c.args.value.now
    (c.deref.ensures.value
    ∙ sym (ap (λ (ps : List PlacedPart). placed_paragraphs ps ++ c.in_ok-new.new.paragraphs.items)
    c.in_ok-new.ensures.no_parts) ∙ c.in_ok-new.ensures.shown.paragraphs)
    (c.weight_laws.ensures.items (shown_paragraphs c.args.attrs c.args.value.now)) in
    let weight = c.weight_laws.ensures.value c.args.attrs c.args.value.now c.size-size.ensures.well_formed in
    record { few = omega (arith, few, weight, c.requires.small) }
