use Rattle.std.proofs.Common.{ap, ◌∙◌}
use Rattle.std.specs.FinMap.{get}
use Rattle.tx_exec.specs.States.{before_of}
use Rattle.tx_exec_form.specs.Evaluated.{WideTrace}
use Rattle.tx_replay.specs.Held.{agrees}
use Rattle.tx_replay.specs.SameTrees.{same}
use Rattle.tx_replay.proofs.Agreed.{test_same}
use Rattle.tx_replay.proofs.fitting.trace_fits.Goals as goal

pub returns : goal.returns
returns c =
    c.looks_agree.ensures
    ∙ test_same (λ look. same (get c.args.env.now.map look.0) look.1) c.trace.result.now.looks c.trace.ensures.once.0
    ∙ ap (λ (w : WideTrace). agrees (before_of c.args.env.now) w.looks) c.trace.ensures.is
