use Rattle.std.proofs.Common.{sym, ap, ◌∙◌, arith}
use Rattle.std.specs.Prelude.{Some, option_copied}
use Rattle.tx_unit_layout.specs.Stretches.{WideStretch, part_or_root, stretches}
use Rattle.tx_view.specs.Marks.{spot_places}
use Rattle.tx_view.proofs.Stopping.{short_paragraphs, stretch_added, all_added}
use Rattle.tx_view.proofs.spots.add_stretches.Goals as goal

pub add_paragraphs-requires : goal.add_paragraphs-requires
add_paragraphs-requires c =
    let s : WideStretch = record {
      part = part_or_root (option_copied c.stretch.inside.part);
      paragraphs = c.stretch.inside.paragraphs.now;
      lines = c.stretch.inside.lines.now;
    } in
    short_paragraphs c.args.unit.now c.loop-i.i s c.requires.short_items
    (c.stretch-stretch.ensures ∙ ap Some (sym c.stretch.view_is))

pub loop-i-preserved : goal.loop-i-preserved
loop-i-preserved c =
    let s : WideStretch = record {
      part = part_or_root (option_copied c.stretch.inside.part);
      paragraphs = c.stretch.inside.paragraphs.now;
      lines = c.stretch.inside.lines.now;
    } in
    stretch_added c.args.path.now (stretches c.args.unit.now) c.loop-i.i s (spot_places c.args.spots.now.items)
    (spot_places c.loop-i.spots.items) (spot_places c.add_paragraphs.new.spots.items)
    (c.stretch-stretch.ensures ∙ ap Some (sym c.stretch.view_is)) c.loop-i.invariant c.in_ok-add_paragraphs.ensures

pub returns : goal.returns
returns c =
    all_added c.args.path.now c.args.unit.now c.loop-i.i (spot_places c.args.spots.now.items)
    (spot_places c.loop-i.spots.items) (omega (arith, c.loop-i-test.false, c.stretch_count-i-end.ensures))
    c.loop-i.invariant
