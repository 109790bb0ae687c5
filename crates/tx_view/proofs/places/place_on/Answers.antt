use Rattle.std.proofs.Common.{◌≡◌, List, get_or, sym, ap, ◌∙◌}
use Rattle.std.specs.Prelude.{Some, All, option_copied, slice_get}
use Rattle.std.proofs.lemmas.List.Elements.{All-get_or, All-same}
use Rattle.tx_layout.specs.declared.layout.Line.{Line}
use Rattle.tx_part_layout.specs.LinesUnder.{line_under}
use Rattle.tx_unit_layout.specs.Stretches.{WideStretch, part_or_root, stretches}
use Rattle.tx_unit_layout.proofs.Stretching.{short_in_stretch}
use Rattle.tx_view_form.specs.Positions.{IsShort, place_on}
use Rattle.tx_view.specs.InUnits.{lines_above, lines_below}
use Rattle.tx_view.specs.Marks.{spot_place}
use Rattle.tx_view.proofs.Deeper.{place_covered, place_between, the_line, in_stretch}
use Rattle.tx_view.proofs.places.place_on.Goals as goal

pub covering-requires : goal.covering-requires
covering-requires c =
    let w : WideStretch = record {
      part = part_or_root (option_copied c.stretch.inside.part);
      paragraphs = c.stretch.inside.paragraphs.now;
      lines = c.stretch.inside.lines.now;
    } in
    let at : slice_get (stretches c.args.shown.now) c.args.k ≡ Some w =
    c.stretch-stretch.ensures ∙ ap Some (sym c.stretch.view_is) in
    All-get_or (λ (line : Line). All IsShort line.items) w.lines c.args.i c.index-stretch-i.result
    (in_stretch (stretches c.args.shown.now) c.args.k c.args.i w at c.requires.there)
    (short_in_stretch c.args.shown.now c.args.k w c.requires.short at)

pub nearest-requires-clause-here : goal.nearest-requires-clause-here
nearest-requires-clause-here c =
    let w : WideStretch = record {
      part = part_or_root (option_copied c.stretch.inside.part);
      paragraphs = c.stretch.inside.paragraphs.now;
      lines = c.stretch.inside.lines.now;
    } in
    let at : slice_get (stretches c.args.shown.now) c.args.k ≡ Some w =
    c.stretch-stretch.ensures ∙ ap Some (sym c.stretch.view_is) in
    All-same IsShort c.all.result.now (get_or w.lines c.args.i c.index-stretch-i.result).items c.all.ensures
    (All-get_or (λ (line : Line). All IsShort line.items) w.lines c.args.i c.index-stretch-i.result
    (in_stretch (stretches c.args.shown.now) c.args.k c.args.i w at c.requires.there)
    (short_in_stretch c.args.shown.now c.args.k w c.requires.short at))

pub returns-in-Some : goal.returns-in-Some
returns-in-Some c =
    let w : WideStretch = record {
      part = part_or_root (option_copied c.stretch.inside.part);
      paragraphs = c.stretch.inside.paragraphs.now;
      lines = c.stretch.inside.lines.now;
    } in
    let above : List Line = lines_above c.args.shown.now c.args.k c.args.i in
    let below : List Line = lines_below c.args.shown.now c.args.k c.args.i in
    λ s line there at. the_line (stretches c.args.shown.now) c.args.k c.args.i w s line c.index-stretch-i.result
    (λ b l. spot_place c.start_of.result
    ≡ spot_place (place_on c.args.path.now above (line_under b l) below c.args.column))
    (c.stretch-stretch.ensures ∙ ap Some (sym c.stretch.view_is)) there at
    (c.start_of.ensures
    ∙ ap spot_place (sym (place_covered c.args.path.now above below w.part
    (get_or w.lines c.args.i c.index-stretch-i.result) c.args.column c.covering.result c.in-Some.mark
    c.covering.ensures c.in-Some.is)))

pub returns-in-None : goal.returns-in-None
returns-in-None c =
    let w : WideStretch = record {
      part = part_or_root (option_copied c.stretch.inside.part);
      paragraphs = c.stretch.inside.paragraphs.now;
      lines = c.stretch.inside.lines.now;
    } in
    let above : List Line = lines_above c.args.shown.now c.args.k c.args.i in
    let below : List Line = lines_below c.args.shown.now c.args.k c.args.i in
    λ s line there at. the_line (stretches c.args.shown.now) c.args.k c.args.i w s line c.index-stretch-i.result
    (λ b l. spot_place c.nearest.result
    ≡ spot_place (place_on c.args.path.now above (line_under b l) below c.args.column))
    (c.stretch-stretch.ensures ∙ ap Some (sym c.stretch.view_is)) there at
    (c.nearest.ensures
    ∙ ap spot_place (sym (place_between c.args.path.now above below w.part
    (get_or w.lines c.args.i c.index-stretch-i.result) c.args.column c.covering.result c.all.result.now
    c.item_number-number.result c.covering.ensures c.in-None.is c.all.ensures c.item_number-number.ensures.number)))
