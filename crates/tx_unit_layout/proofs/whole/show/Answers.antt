use Rattle.std.proofs.Common.{◌∙◌, ◌++◌, List, ap, ap₂, sym, subst, arith}
use Rattle.std.specs.List.{All}
use Rattle.tx_items.specs.declared.drawing.Paragraph.{Paragraph}
use Rattle.tx_layout.specs.declared.layout.Line.{Line}
use Rattle.tx_view_form.specs.Positions.{IsShort}
use Rattle.tx_view_form.specs.Views.{AreLines}
use Rattle.tx_items.specs.Shows.{shown_paragraphs}
use Rattle.tx_part_layout.specs.LaidParts.{placed_paragraphs, placed_lines, AreBelow}
use Rattle.tx_part_layout.specs.declared.laid.PlacedPart.{PlacedPart}
use Rattle.tx_unit_layout.proofs.Lining.{few_items, shown_nowhere}
use Rattle.tx_unit_layout.proofs.Costing.{items_nowhere}
use Rattle.tx_unit_layout.proofs.whole.show.Goals as goal

pub returns-in_default-clause-shown : goal.returns-in_default-clause-shown
returns-in_default-clause-shown g c =
    shown_nowhere c.args.width c.args.attrs c.args.value.now c.args.path.now c.in_ok-paragraphs.errors.items _ _
    c.in_default.is c.in_ok-paragraphs.ensures.errors
    (ap₂ (λ ps own. placed_paragraphs ps ++ own) c.none-in_default.ensures c.new.ensures.items)
    (ap₂ (λ ps own. placed_lines ps ++ own) c.none-in_default.ensures c.none.ensures)

pub returns-in_default-clause-counted : goal.returns-in_default-clause-counted
returns-in_default-clause-counted g c =
    omega (arith, items_nowhere c.args.attrs c.args.value.now c.args.path.now c.in_default.is)

pub lines_of-requires-clause-few : goal.lines_of-requires-clause-few
lines_of-requires-clause-few g c =
    few_items c.deref.result.now (shown_paragraphs c.args.attrs c.args.value.now) _
    (c.deref.ensures.value ∙ c.in_ok-paragraphs.ensures.paragraphs)
    (c.weight_laws.ensures.items c.deref.result.now)
    (c.weight_laws.ensures.value c.args.attrs c.args.value.now c.size-size.ensures.well_formed) c.requires.small

pub returns-clause-readable : goal.returns-clause-readable
returns-clause-readable g c =
    let paragraphs = ap (λ (ps : List PlacedPart). placed_paragraphs ps ++ c.in_ok-paragraphs.paragraphs.items)
    c.none-2.ensures in
    let lines = ap₂ (λ (ps : List PlacedPart) (own : List Line). placed_lines ps ++ own) c.none-2.ensures
    c.new-2.ensures in
    let short_items : All (λ p. All IsShort p.items) c.in_ok-paragraphs.paragraphs.items =
    subst (λ (ps : List Paragraph). All (λ p. All IsShort p.items) ps) (sym c.in_ok-paragraphs.ensures.paragraphs)
    (c.short_law.ensures.items c.args.attrs c.args.value.now c.size-size.ensures.well_formed
    c.size-size.ensures.within) in
    record {
      placed = λ e. cc;
      short =
          subst (λ (ls : List Line). All (λ line. All IsShort line.items) ls) (sym lines)
          (c.short_law.ensures.lines c.args.width c.in_ok-paragraphs.paragraphs.items c.in_ok-lines.lines.items
          (subst (λ (ps : List Paragraph). AreLines c.args.width ps c.in_ok-lines.lines.items) c.deref.ensures.value
          c.in_ok-lines.ensures.lines) short_items);
      short_items = subst (λ (ps : List Paragraph). All (λ p. All IsShort p.items) ps) (sym paragraphs) short_items;
      below = λ a laid. subst (AreBelow 0) (sym c.none-2.ensures) tt;
    }
