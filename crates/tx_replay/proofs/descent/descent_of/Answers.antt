use Rattle.std.proofs.Common.{sym, ◌∙◌, ap}
use Rattle.std.specs.Prelude.{is_some}
use Rattle.tx_parts.specs.Openness.{settings_in}
use Rattle.tx_replay.proofs.Descents.{with_opens}
use Rattle.tx_replay.proofs.descent.descent_of.Goals as goal

pub returns-then-has_settings : goal.returns-then-has_settings
returns-then-has_settings c =
    with_opens c.args.t.now c.in-Some.label.now c.in-Some.ensures (sym c.is_document.ensures ∙ c.if-is_document.false)
    (sym c.is_with.ensures ∙ c.if-is_with.true)
    (sym c.if-has_settings.true ∙ c.has_settings.ensures ∙ ap (λ ts. is_some (settings_in ts)) c.children.ensures)
