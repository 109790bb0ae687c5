use Rattle.std.proofs.Common.{◌≡◌, ◌+◌, ◌-◌, length, drop, sym, ap, ◌∙◌, arith}
use Rattle.std.specs.Prelude.{Some, None, All, option_copied, slice_get}
use Rattle.std.proofs.lemmas.List.Elements.{All-take, All-drop}
use Rattle.std.proofs.lemmas.Option.{slice_get_within}
use Rattle.tx_layout.specs.declared.layout.Line.{Line}
use Rattle.tx_view_form.specs.Positions.{IsShort}
use Rattle.tx_unit_layout.specs.Stretches.{WideStretch, part_or_root, stretches}
use Rattle.tx_unit_layout.proofs.Stretching.{short_in_stretch}
use Rattle.tx_view.proofs.NearPlaces.{first_below_is}
use Rattle.tx_view.proofs.marks.first_below.Goals as goal

pub first_on-requires : goal.first_on-requires
first_on-requires c =
    let s : WideStretch = record {
      part = part_or_root (option_copied c.stretch.inside.part);
      paragraphs = c.stretch.inside.paragraphs.now;
      lines = c.stretch.inside.lines.now;
    } in
    let at : slice_get (stretches c.args.shown.now) c.args.k ≡ Some s =
    c.stretch-stretch.ensures ∙ ap Some (sym c.stretch.view_is) in
    All-take (λ (line : Line). All IsShort line.items) (length s.lines - (c.args.i + 1)) (drop (c.args.i + 1) s.lines)
    (All-drop (λ (line : Line). All IsShort line.items) (c.args.i + 1) s.lines
    (short_in_stretch c.args.shown.now c.args.k s c.requires.short at))

pub returns-in-Some : goal.returns-in-Some
returns-in-Some c =
    let s : WideStretch = record {
      part = part_or_root (option_copied c.stretch.inside.part);
      paragraphs = c.stretch.inside.paragraphs.now;
      lines = c.stretch.inside.lines.now;
    } in
    let at : slice_get (stretches c.args.shown.now) c.args.k ≡ Some s =
    c.stretch-stretch.ensures ∙ ap Some (sym c.stretch.view_is) in
    sym (first_below_is c.args.shown.now c.args.k c.args.i s (Some c.in-Some.mark) at
    (sym c.in-Some.is ∙ c.first_on.ensures))

pub overflow_add-k : goal.overflow_add-k
overflow_add-k c =
    omega (
      arith,
      slice_get_within (stretches c.args.shown.now) c.args.k c.stretch-stretch.result c.stretch-stretch.ensures,
      c.stretch_count-count.ensures,
    )

pub first_from-requires-clause-there : goal.first_from-requires-clause-there
first_from-requires-clause-there c =
    omega (
      arith,
      slice_get_within (stretches c.args.shown.now) c.args.k c.stretch-stretch.result c.stretch-stretch.ensures,
    )

pub returns : goal.returns
returns c =
    let s : WideStretch = record {
      part = part_or_root (option_copied c.stretch.inside.part);
      paragraphs = c.stretch.inside.paragraphs.now;
      lines = c.stretch.inside.lines.now;
    } in
    let at : slice_get (stretches c.args.shown.now) c.args.k ≡ Some s =
    c.stretch-stretch.ensures ∙ ap Some (sym c.stretch.view_is) in
    c.first_from.ensures
    ∙ sym (first_below_is c.args.shown.now c.args.k c.args.i s None at
    (sym c.in_default.is ∙ c.first_on.ensures))
