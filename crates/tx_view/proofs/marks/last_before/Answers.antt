use Rattle.std.proofs.Common.{◌-◌, take, sym, ap, ◌∙◌, arith}
use Rattle.std.specs.Prelude.{Some, None, option_copied}
use Rattle.tx_unit_layout.specs.Stretches.{WideStretch, part_or_root, stretches}
use Rattle.tx_unit_layout.proofs.Stretching.{short_in_stretch}
use Rattle.tx_view.specs.Marks.{last_of}
use Rattle.tx_view.proofs.Finding.{last_stretch, marks_in}
use Rattle.tx_view.proofs.marks.last_before.Goals as goal

pub last_on-requires : goal.last_on-requires
last_on-requires c =
    let s : WideStretch = record {
      part = part_or_root (option_copied c.stretch.inside.part);
      paragraphs = c.stretch.inside.paragraphs.now;
      lines = c.stretch.inside.lines.now;
    } in
    short_in_stretch c.args.shown.now (c.loop-end.end - 1) s c.requires.short
    (c.stretch-stretch.ensures ∙ ap Some (sym c.stretch.view_is))

pub returns-in-Some : goal.returns-in-Some
returns-in-Some c =
    let s : WideStretch = record {
      part = part_or_root (option_copied c.stretch.inside.part);
      paragraphs = c.stretch.inside.paragraphs.now;
      lines = c.stretch.inside.lines.now;
    } in
    sym (last_stretch (stretches c.args.shown.now) (last_of (marks_in (take c.args.k (stretches c.args.shown.now))))
    c.loop-end.end s (Some c.in-Some.mark) c.loop-end-test.true
    (c.stretch-stretch.ensures ∙ ap Some (sym c.stretch.view_is)) (sym c.in-Some.is ∙ c.last_on.ensures)
    c.loop-end.invariant.last)

pub loop-end-preserved : goal.loop-end-preserved
loop-end-preserved c =
    let s : WideStretch = record {
      part = part_or_root (option_copied c.stretch.inside.part);
      paragraphs = c.stretch.inside.paragraphs.now;
      lines = c.stretch.inside.lines.now;
    } in record {
      within = omega (arith, c.loop-end.invariant.within);
      last =
          last_stretch (stretches c.args.shown.now)
          (last_of (marks_in (take c.args.k (stretches c.args.shown.now)))) c.loop-end.end s None c.loop-end-test.true
          (c.stretch-stretch.ensures ∙ ap Some (sym c.stretch.view_is)) (sym c.in_default.is ∙ c.last_on.ensures)
          c.loop-end.invariant.last;
    }
