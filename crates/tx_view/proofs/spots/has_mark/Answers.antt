use Rattle.std.proofs.Common.{refl, sym, ap, ◌∙◌, arith}
use Rattle.std.specs.Prelude.{Some, true, false, option_copied}
use Rattle.tx_unit_layout.specs.Stretches.{WideStretch, part_or_root, stretches}
use Rattle.tx_view.proofs.Finding.{all_marks_in}
use Rattle.tx_view.proofs.Stopping.{have_some, some_stretch, short_paragraphs, unit_marks, none_left}
use Rattle.tx_view.proofs.spots.has_mark.Goals as goal

pub have_mark-requires : goal.have_mark-requires
have_mark-requires c =
    let s : WideStretch = record {
      part = part_or_root (option_copied c.stretch-in-loop-i.inside.part);
      paragraphs = c.stretch-in-loop-i.inside.paragraphs.now;
      lines = c.stretch-in-loop-i.inside.lines.now;
    } in
    short_paragraphs c.args.unit.now c.loop-i.i s c.requires.short_items
    (c.stretch.ensures ∙ ap Some (sym c.stretch-in-loop-i.view_is))

pub returns-then-have_mark : goal.returns-then-have_mark
returns-then-have_mark c =
    let s : WideStretch = record {
      part = part_or_root (option_copied c.stretch-in-loop-i.inside.part);
      paragraphs = c.stretch-in-loop-i.inside.paragraphs.now;
      lines = c.stretch-in-loop-i.inside.lines.now;
    } in
    sym (some_stretch (stretches c.args.unit.now) (have_some (all_marks_in (stretches c.args.unit.now))) true
    c.loop-i.i s (c.stretch.ensures ∙ ap Some (sym c.stretch-in-loop-i.view_is))
    (sym c.if-have_mark.true ∙ c.have_mark.ensures)
    c.loop-i.invariant)
    ∙ sym (ap have_some (unit_marks c.args.unit.now))

pub loop-i-preserved : goal.loop-i-preserved
loop-i-preserved c =
    let s : WideStretch = record {
      part = part_or_root (option_copied c.stretch-in-loop-i.inside.part);
      paragraphs = c.stretch-in-loop-i.inside.paragraphs.now;
      lines = c.stretch-in-loop-i.inside.lines.now;
    } in
    some_stretch (stretches c.args.unit.now) (have_some (all_marks_in (stretches c.args.unit.now))) false c.loop-i.i s
    (c.stretch.ensures ∙ ap Some (sym c.stretch-in-loop-i.view_is)) (sym c.if-have_mark.false ∙ c.have_mark.ensures)
    c.loop-i.invariant

pub returns : goal.returns
returns c =
    sym (c.loop-i.invariant
    ∙ none_left all_marks_in (stretches c.args.unit.now) c.loop-i.i refl
    (omega (arith, c.loop-i-test.false, c.stretch_count-i-end.ensures)))
    ∙ sym (ap have_some (unit_marks c.args.unit.now))
