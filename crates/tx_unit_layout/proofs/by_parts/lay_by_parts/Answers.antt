use Rattle.std.proofs.Common.{refl, Some}
use Rattle.tx_exec.specs.Outcomes.{wide_trace}
use Rattle.tx_unit_layout.specs.declared.shown.Shown.{Shown}
use Rattle.tx_unit_layout.proofs.ByParts.{IsMade, out_by_parts, readable_by_parts, ats_by_parts, parts_by_parts}
use Rattle.tx_unit_layout.proofs.ByParts.{of_by_parts, items_anew_is, items_within}
use Rattle.tx_unit_layout.proofs.Renewed.{all_of_value, now_laid}
use Rattle.tx_unit_layout.proofs.by_parts.lay_by_parts.Goals as goal

pub lay_again-requires-clause-same : goal.lay_again-requires-clause-same
lay_again-requires-clause-same g c =
    all_of_value c.args.width c.requires.was_laid.held c.args.shown.now.parts c.args.parts.now
    c.requires.was_laid.laid.parts c.requires.was_laid.stays

pub returns-clause-was_laid : goal.returns-clause-was_laid
returns-clause-was_laid g c =
    let at = c.done_parts_law.ensures.evaluates in
    let trace = wide_trace c.args.trace.now in
    let shows = c.in_ok-laid.ensures.shown at.0 at.1 trace at.2 at.3 in
    let is : IsMade c.args.unit.now.path c.in_ok-laid.laid _ = record {
      path_is = c.in_ok-path.ensures;
      errors = refl;
      paragraphs = refl;
      lines = refl;
      parts = c.new.ensures;
    } in
    now_laid c.args.width (record { unit = c.args.unit.now; trace = Some trace }) c.args.parts.now c.args.attrs _
    c.requires.distinct c.in_ok-path.ensures refl
    (out_by_parts c.args.width c.args.attrs c.args.unit.now trace c.args.parts.now c.in_ok-laid.laid
    c.requires.body c.in_ok-laid.ensures.laid shows _ is c.weight_laws.ensures.lines c.weight_laws.ensures.errors)
    (ats_by_parts c.args.width c.args.attrs c.args.unit.now trace c.args.parts.now c.in_ok-laid.laid
    c.requires.body c.in_ok-laid.ensures.laid shows _ is)
    (of_by_parts c.args.width c.args.attrs c.args.unit.now trace c.args.parts.now c.in_ok-laid.laid
    c.requires.body c.in_ok-laid.ensures.laid shows _ is)
    (parts_by_parts c.args.width c.args.attrs c.args.unit.now trace c.args.parts.now c.in_ok-laid.laid
    c.requires.body c.in_ok-laid.ensures.laid shows _ is c.requires.distinct)

pub returns-clause-readable : goal.returns-clause-readable
returns-clause-readable g c =
    let at = c.done_parts_law.ensures.evaluates in
    let trace = wide_trace c.args.trace.now in
    let shows = c.in_ok-laid.ensures.shown at.0 at.1 trace at.2 at.3 in
    let x : Shown = record {
      path = c.in_ok-path.path;
      laid = Some c.args.attrs;
      errors = c.in_ok-laid.laid.errors;
      paragraphs = c.in_ok-laid.laid.paragraphs;
      lines = c.in_ok-laid.laid.lines;
      parts = c.new.result;
    } in
    readable_by_parts c.args.width c.args.attrs c.args.unit.now trace c.args.parts.now c.in_ok-laid.laid
    c.requires.body c.in_ok-laid.ensures.laid shows x
    (record {
      path_is = c.in_ok-path.ensures;
      errors = refl;
      paragraphs = refl;
      lines = refl;
      parts = c.new.ensures;
    })
    c.short_law.ensures.lines
    (c.short_law.ensures.items c.args.attrs c.args.trace.now.value c.size-size.ensures.well_formed
    c.size-size.ensures.within)

pub returns-clause-items : goal.returns-clause-items
returns-clause-items g c =
    let at = c.done_parts_law.ensures.evaluates in
    let trace = wide_trace c.args.trace.now in
    let shows = c.in_ok-laid.ensures.shown at.0 at.1 trace at.2 at.3 in
    items_anew_is c.args.width c.args.attrs c.args.unit.now trace c.args.parts.now c.in_ok-laid.laid
    c.requires.body c.in_ok-laid.ensures.laid shows c.args.shown.now.parts c.args.shown.now.parts
    refl c.in_ok-laid.laid.items c.in_ok-laid.ensures.items

pub returns-clause-within : goal.returns-clause-within
returns-clause-within g c =
    let at = c.done_parts_law.ensures.evaluates in
    let trace = wide_trace c.args.trace.now in
    let shows = c.in_ok-laid.ensures.shown at.0 at.1 trace at.2 at.3 in
    items_within c.args.width c.args.attrs c.args.unit.now trace c.args.parts.now c.in_ok-laid.laid
    c.requires.body c.in_ok-laid.ensures.laid shows c.args.shown.now.parts c.args.shown.now.parts
    refl c.in_ok-laid.laid.items c.in_ok-laid.ensures.items
