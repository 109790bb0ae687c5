use Rattle.std.proofs.Common.{drop, sym, ap, ◌∙◌}
use Rattle.std.specs.Prelude.{Some, None, option_copied}
use Rattle.tx_unit_layout.specs.Stretches.{WideStretch, part_or_root, stretches}
use Rattle.tx_unit_layout.proofs.Stretching.{short_in_stretch}
use Rattle.tx_view.specs.Marks.{first_of}
use Rattle.tx_view.proofs.Finding.{first_stretch, marks_in}
use Rattle.tx_view.proofs.marks.first_from.Goals as goal

pub first_on-requires : goal.first_on-requires
first_on-requires c =
    let s : WideStretch = record {
      part = part_or_root (option_copied c.stretch.inside.part);
      paragraphs = c.stretch.inside.paragraphs.now;
      lines = c.stretch.inside.lines.now;
    } in
    short_in_stretch c.args.shown.now c.loop-i.i s c.requires.short
    (c.stretch-stretch.ensures ∙ ap Some (sym c.stretch.view_is))

pub returns-in-Some : goal.returns-in-Some
returns-in-Some c =
    let s : WideStretch = record {
      part = part_or_root (option_copied c.stretch.inside.part);
      paragraphs = c.stretch.inside.paragraphs.now;
      lines = c.stretch.inside.lines.now;
    } in
    sym (first_stretch (stretches c.args.shown.now) (first_of (marks_in (drop c.args.k (stretches c.args.shown.now))))
    c.loop-i.i s (Some c.in-Some.mark) (c.stretch-stretch.ensures ∙ ap Some (sym c.stretch.view_is))
    (sym c.in-Some.is ∙ c.first_on.ensures) c.loop-i.invariant)

pub loop-i-preserved : goal.loop-i-preserved
loop-i-preserved c =
    let s : WideStretch = record {
      part = part_or_root (option_copied c.stretch.inside.part);
      paragraphs = c.stretch.inside.paragraphs.now;
      lines = c.stretch.inside.lines.now;
    } in
    first_stretch (stretches c.args.shown.now) (first_of (marks_in (drop c.args.k (stretches c.args.shown.now))))
    c.loop-i.i s None (c.stretch-stretch.ensures ∙ ap Some (sym c.stretch.view_is))
    (sym c.in_default.is ∙ c.first_on.ensures) c.loop-i.invariant
