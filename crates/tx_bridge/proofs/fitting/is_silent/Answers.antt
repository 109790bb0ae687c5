use Rattle.std.proofs.Common.{◌∙◌, sym, ap, length}
use Rattle.tx_bridge.proofs.Used.{silent_done, none_there}
use Rattle.tx_bridge.proofs.fitting.is_silent.Goals as goal

pub returns-in-Done : goal.returns-in-Done
returns-in-Done c = λ h.
    silent_done c.args.kept.now c.in-Done.trace c.in-Done.is
    (sym (ap length c.pairs.ensures) ∙ none_there (length c.pairs.result.now) (sym c.is_empty.ensures ∙ h))
