use Rattle.std.proofs.Common.{◌≡◌, sym, ap, ◌∙◌, arith}
use Rattle.std.specs.Prelude.{Some, None, All, option_copied, slice_get}
use Rattle.std.proofs.lemmas.List.Elements.{All-take}
use Rattle.std.proofs.lemmas.Option.{slice_get_within}
use Rattle.tx_layout.specs.declared.layout.Line.{Line}
use Rattle.tx_view_form.specs.Positions.{IsShort}
use Rattle.tx_unit_layout.specs.Stretches.{WideStretch, part_or_root, stretches}
use Rattle.tx_unit_layout.proofs.Stretching.{short_in_stretch}
use Rattle.tx_view.proofs.NearPlaces.{last_above_is}
use Rattle.tx_view.proofs.marks.last_above.Goals as goal

pub last_on-requires : goal.last_on-requires
last_on-requires c =
    let s : WideStretch = record {
      part = part_or_root (option_copied c.stretch.inside.part);
      paragraphs = c.stretch.inside.paragraphs.now;
      lines = c.stretch.inside.lines.now;
    } in
    let at : slice_get (stretches c.args.shown.now) c.args.k ≡ Some s =
    c.stretch-stretch.ensures ∙ ap Some (sym c.stretch.view_is) in
    All-take (λ (line : Line). All IsShort line.items) c.args.i s.lines
    (short_in_stretch c.args.shown.now c.args.k s c.requires.short at)

pub returns-in-Some : goal.returns-in-Some
returns-in-Some c =
    let s : WideStretch = record {
      part = part_or_root (option_copied c.stretch.inside.part);
      paragraphs = c.stretch.inside.paragraphs.now;
      lines = c.stretch.inside.lines.now;
    } in
    let at : slice_get (stretches c.args.shown.now) c.args.k ≡ Some s =
    c.stretch-stretch.ensures ∙ ap Some (sym c.stretch.view_is) in
    sym (last_above_is c.args.shown.now c.args.k c.args.i s (Some c.in-Some.mark) at
    (sym c.in-Some.is ∙ c.last_on.ensures))

pub last_before-requires-clause-there : goal.last_before-requires-clause-there
last_before-requires-clause-there c =
    omega (
      arith,
      slice_get_within (stretches c.args.shown.now) c.args.k c.stretch-stretch.result c.stretch-stretch.ensures,
    )

pub returns : goal.returns
returns c =
    let s : WideStretch = record {
      part = part_or_root (option_copied c.stretch.inside.part);
      paragraphs = c.stretch.inside.paragraphs.now;
      lines = c.stretch.inside.lines.now;
    } in
    let at : slice_get (stretches c.args.shown.now) c.args.k ≡ Some s =
    c.stretch-stretch.ensures ∙ ap Some (sym c.stretch.view_is) in
    c.last_before.ensures
    ∙ sym (last_above_is c.args.shown.now c.args.k c.args.i s None at
    (sym c.in_default.is ∙ c.last_on.ensures))
