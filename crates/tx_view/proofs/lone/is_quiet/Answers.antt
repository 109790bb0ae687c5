use Rattle.std.proofs.Common.{◌≡◌, ◌∙◌, ap, sym, length}
use Rattle.tx_exec.specs.Outcomes.{wide_outcome, wide_trace}
use Rattle.tx_exec.specs.declared.outcome.Outcome.{Outcome}
use Rattle.tx_view_form.specs.Outcomes.{env_behind}
use Rattle.tx_view.proofs.Setting.{leaves, none_there}
use Rattle.tx_view.proofs.lone.is_quiet.Goals as goal

pub returns-in-Done : goal.returns-in-Done
returns-in-Done c on =
    let none : length c.pairs.result.now ≡ 0 = none_there (length c.pairs.result.now) (sym c.is_empty.ensures ∙ on) in (
      wide_trace c.in-Done.trace,
      ap wide_outcome c.in-Done.is,
      λ env.
          ap (λ (o : Outcome). env_behind env (wide_outcome o)) c.in-Done.is
          ∙ leaves c.in-Done.trace.writes env (ap length (sym c.pairs.ensures) ∙ none),
    )
