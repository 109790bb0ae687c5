use Rattle.std.proofs.Common.{◌∙◌, ap, sym}
use Rattle.tx_exec.specs.Outcomes.{wide_outcome}
use Rattle.tx_view_form.specs.Outcomes.{unit_value}
use Rattle.tx_bridge.specs.HeldParts.{kept_parts}
use Rattle.tx_bridge.specs.PartsKept.{has_parts}
use Rattle.tx_unit_layout.proofs.Renewed.{laid_whole, no_parts_kept, over_whole, plain_whole}
use Rattle.tx_unit_layout.proofs.laying.lay_unit.Goals as goal

pub returns-in_default-clause-was_laid : goal.returns-in_default-clause-was_laid
returns-in_default-clause-was_laid g c =
    let o = wide_outcome c.args.outcome.now in
    laid_whole c.lay_whole-in_default.result c.args.width (record { unit = c.args.unit.now; trace = o })
    c.args.parts.now c.args.attrs c.in_ok-over_value.field-0 c.args.shown.now.path c.lay_whole-in_default.new.shown
    c.requires.distinct (over_whole (has_parts c.args.unit.now) o (ap wide_outcome c.in_default.is))
    (no_parts_kept c.requires.fresh.0 c.args.unit.now o (kept_parts c.args.parts.now)
    (over_whole (has_parts c.args.unit.now) o (ap wide_outcome c.in_default.is)) c.requires.fresh.1
    c.requires.fresh.2) c.requires.was_laid.laid.path
    (c.in_ok-over_value.ensures ∙ sym (ap (λ p. unit_value (wide_outcome p)) c.in_default.is))
    c.lay_whole-in_default.ensures.shown c.lay_whole-in_default.ensures.laid c.lay_whole-in_default.ensures.no_parts

pub lay_by_parts-requires-clause-fresh : goal.lay_by_parts-requires-clause-fresh
lay_by_parts-requires-clause-fresh g c =
    let h = c.requires.fresh in (h.0, sym (ap wide_outcome c.in-Done.is) ∙ h.1, h.2)

pub returns-clause-was_laid : goal.returns-clause-was_laid
returns-clause-was_laid g c =
    let o = wide_outcome c.args.outcome.now in
    laid_whole c.lay_whole-2.result c.args.width (record { unit = c.args.unit.now; trace = o }) c.args.parts.now
    c.args.attrs c.in-Done.trace.value c.args.shown.now.path c.lay_whole-2.new.shown c.requires.distinct
    (plain_whole (has_parts c.args.unit.now) o (sym c.has_parts.ensures ∙ c.if-has_parts.false))
    (no_parts_kept c.requires.fresh.0 c.args.unit.now o (kept_parts c.args.parts.now)
    (plain_whole (has_parts c.args.unit.now) o (sym c.has_parts.ensures ∙ c.if-has_parts.false)) c.requires.fresh.1
    c.requires.fresh.2) c.requires.was_laid.laid.path (sym (ap (λ p. unit_value (wide_outcome p)) c.in-Done.is))
    c.lay_whole-2.ensures.shown c.lay_whole-2.ensures.laid c.lay_whole-2.ensures.no_parts
