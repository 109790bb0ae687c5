use Rattle.std.proofs.Common.{◌≡◌, sym, ap, ◌∙◌}
use Rattle.std.specs.Prelude.{Some, All, option_copied, slice_get}
use Rattle.std.proofs.lemmas.List.Elements.{All-get_or}
use Rattle.tx_layout.specs.declared.layout.Line.{Line}
use Rattle.tx_unit_layout.specs.Stretches.{WideStretch, part_or_root, stretches}
use Rattle.tx_unit_layout.proofs.Stretching.{short_in_stretch}
use Rattle.tx_view_form.specs.Positions.{IsShort}
use Rattle.tx_view.proofs.LinesIn.{line_within}
use Rattle.tx_view.proofs.moves.line_in.Goals as goal

pub returns-clause-short : goal.returns-clause-short
returns-clause-short c =
    let s : WideStretch = record {
      part = part_or_root (option_copied c.stretch.inside.part);
      paragraphs = c.stretch.inside.paragraphs.now;
      lines = c.stretch.inside.lines.now;
    } in
    let at : slice_get (stretches c.args.unit.now) c.line_in-k.result.0 ≡ Some s =
    c.stretch-stretch.ensures ∙ ap Some (sym c.stretch.view_is) in
    All-get_or (λ (line : Line). All IsShort line.items) s.lines c.line_in-k.result.1 c.index-stretch-i.result
    (line_within c.args.unit.now c.args.number c.line_in-k.result c.line_in-k.ensures s at)
    (short_in_stretch c.args.unit.now c.line_in-k.result.0 s c.requires.drawable.short at)
