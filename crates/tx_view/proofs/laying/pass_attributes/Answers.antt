use Rattle.std.proofs.Common.{◌∙◌, ap, sym}
use Rattle.tx_exec.specs.Outcomes.{wide_outcome}
use Rattle.tx_view_form.specs.Outcomes.{env_behind}
use Rattle.tx_view_form.specs.Started.{attributes_of}
use Rattle.tx_view.proofs.Onward.{entry_with}
use Rattle.tx_view.proofs.laying.pass_attributes.Goals as goal

pub returns-then-is_silent : goal.returns-then-is_silent
returns-then-is_silent c =
    let e = entry_with c.args.bridges.now.kept c.args.i (wide_outcome c.in-Some.outcome.now) c.in-Some.ensures.found in
    let b = c.requires.before e.0 e.1 in
    b.1 ∙ ap attributes_of (sym (b.2 ∙ ap (env_behind b.0) e.2 ∙ c.is_silent.ensures c.if-is_silent.true b.0))
