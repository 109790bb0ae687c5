use Rattle.std.proofs.Common.{◌≡◌, ◌+◌, [], take, drop, List, ℕ, Option, length, sym, ap, ◌∙◌, arith}
use Rattle.std.specs.Prelude.{Some, None, option_copied, slice_get}
use Rattle.std.specs.Option.{option_map}
use Rattle.std.proofs.lemmas.List.{length-map}
use Rattle.tx_tree.specs.declared.places.Place.{Place}
use Rattle.tx_part_layout.specs.LinesUnder.{line_under}
use Rattle.tx_unit_layout.specs.Stretches.{WideStretch, part_or_root, stretches, stretch_lines}
use Rattle.tx_unit_layout.specs.Views.{unit_view}
use Rattle.tx_unit_layout.proofs.Stretching.{short_in_stretch, unit_lines}
use Rattle.tx_view.specs.Ends.{end_on_lines}
use Rattle.tx_view.proofs.EndsFound.{further, lines_in, stretch_here, stretch_later, no_stretch, lines_more, lines_fit}
use Rattle.tx_view.proofs.EndsFound.{cell_within, narrow_in_stretch}
use Rattle.tx_view.proofs.EndsUnder.{place_after}
use Rattle.tx_view.proofs.ends.end_in_unit.Goals as goal

pub end_in_part-requires-clause-short : goal.end_in_part-requires-clause-short
end_in_part-requires-clause-short c =
    let s : WideStretch = record {
      part = part_or_root (option_copied c.stretch.inside.part);
      paragraphs = c.stretch.inside.paragraphs.now;
      lines = c.stretch.inside.lines.now;
    } in
    short_in_stretch c.args.unit.now c.loop-k.k s c.requires.short
    (c.stretch-stretch.ensures ∙ ap Some (sym c.stretch.view_is))

pub end_in_part-requires-clause-narrow : goal.end_in_part-requires-clause-narrow
end_in_part-requires-clause-narrow c =
    let s : WideStretch = record {
      part = part_or_root (option_copied c.stretch.inside.part);
      paragraphs = c.stretch.inside.paragraphs.now;
      lines = c.stretch.inside.lines.now;
    } in
    narrow_in_stretch c.args.unit.now c.loop-k.k s c.requires.narrow
    (c.stretch-stretch.ensures ∙ ap Some (sym c.stretch.view_is))

pub overflow_add-result : goal.overflow_add-result
overflow_add-result c =
    let s : WideStretch = record {
      part = part_or_root (option_copied c.stretch.inside.part);
      paragraphs = c.stretch.inside.paragraphs.now;
      lines = c.stretch.inside.lines.now;
    } in
    let there : slice_get (stretches c.args.unit.now) c.loop-k.k ≡ Some s =
    c.stretch-stretch.ensures ∙ ap Some (sym c.stretch.view_is) in
    omega (
      arith,
      cell_within c.args.end [] (place_after c.args.steps.now c.args.offset) (stretch_lines s) c.end_in_part.result
          c.in-Some.row c.in-Some.column c.end_in_part.ensures c.in-Some.is,
      length-map s.lines (line_under s.part),
      lines_more (stretches c.args.unit.now) c.loop-k.k s c.loop-k.above there c.loop-k.invariant.many,
      lines_fit (stretches c.args.unit.now) (c.loop-k.k + 1),
      ap length (unit_lines c.args.unit.now),
      c.requires.few,
    )

pub returns-in-Some : goal.returns-in-Some
returns-in-Some c =
    let s : WideStretch = record {
      part = part_or_root (option_copied c.stretch.inside.part);
      paragraphs = c.stretch.inside.paragraphs.now;
      lines = c.stretch.inside.lines.now;
    } in
    let at : Place = place_after c.args.steps.now c.args.offset in
    stretch_here c.args.end [] at (stretches c.args.unit.now)
    (end_on_lines c.args.end [] at (unit_view c.args.unit.now).lines) c.loop-k.above c.loop-k.k s
    (c.stretch-stretch.ensures ∙ ap Some (sym c.stretch.view_is))
    (ap (end_on_lines c.args.end [] at) (unit_lines c.args.unit.now) ∙ c.loop-k.invariant.found)
    c.end_in_part.result c.in-Some.row c.in-Some.column c.end_in_part.ensures c.in-Some.is

pub overflow_add-above : goal.overflow_add-above
overflow_add-above c =
    let s : WideStretch = record {
      part = part_or_root (option_copied c.stretch.inside.part);
      paragraphs = c.stretch.inside.paragraphs.now;
      lines = c.stretch.inside.lines.now;
    } in
    let there : slice_get (stretches c.args.unit.now) c.loop-k.k ≡ Some s =
    c.stretch-stretch.ensures ∙ ap Some (sym c.stretch.view_is) in
    omega (
      arith,
      lines_more (stretches c.args.unit.now) c.loop-k.k s c.loop-k.above there c.loop-k.invariant.many,
      lines_fit (stretches c.args.unit.now) (c.loop-k.k + 1),
      ap length (unit_lines c.args.unit.now),
      c.requires.few,
    )

pub loop-k-preserved : goal.loop-k-preserved
loop-k-preserved c =
    let s : WideStretch = record {
      part = part_or_root (option_copied c.stretch.inside.part);
      paragraphs = c.stretch.inside.paragraphs.now;
      lines = c.stretch.inside.lines.now;
    } in
    let at : Place = place_after c.args.steps.now c.args.offset in
    let there : slice_get (stretches c.args.unit.now) c.loop-k.k ≡ Some s =
    c.stretch-stretch.ensures ∙ ap Some (sym c.stretch.view_is) in
    record {
      many = lines_more (stretches c.args.unit.now) c.loop-k.k s c.loop-k.above there c.loop-k.invariant.many;
      found =
          stretch_later c.args.end [] at (stretches c.args.unit.now)
          (end_on_lines c.args.end [] at (lines_in (stretches c.args.unit.now))) c.loop-k.above c.loop-k.k s there
          c.loop-k.invariant.found c.end_in_part.result c.end_in_part.ensures c.in_default.is;
    }

pub returns : goal.returns
returns c =
    let at : Place = place_after c.args.steps.now c.args.offset in
    no_stretch c.args.end [] at (stretches c.args.unit.now)
    (end_on_lines c.args.end [] at (unit_view c.args.unit.now).lines) c.loop-k.above c.loop-k.k
    (omega (arith, c.loop-k-test.false, c.stretch_count-k-end.ensures))
    (ap (end_on_lines c.args.end [] at) (unit_lines c.args.unit.now) ∙ c.loop-k.invariant.found)
