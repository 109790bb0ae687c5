use Rattle.std.proofs.Common.{◌∙◌}
use Rattle.std.proofs.lemmas.Result.{IfOk-weaker}
use Rattle.tx_origin.specs.TaggedTrees.{tagged_of}
use Rattle.tx_exec.specs.States.{before_of, state_of}
use Rattle.tx_exec.proofs.Ending.{eval_done, eval_over}
use Rattle.tx_exec.proofs.outcome.evaluate.Goals as goal

pub returns-in-Ok-clause-exact : goal.returns-in-Ok-clause-exact
returns-in-Ok-clause-exact g c =
    IfOk-weaker c.trace_from.result _ _
    (λ o h. h ∙ eval_done (tagged_of c.args.t.now) (before_of c.args.env.now) c.args.allowance _ _ _ _
    c.begin-progress.ensures.own c.begin-progress.ensures.looks c.begin-progress.ensures.left
    c.begin-progress.ensures.slack c.in-Ok.value (state_of c.ev.new.self) c.in-Ok.ensures.gives)
    c.trace_from.ensures.trace

pub returns-in-Err-Over-clause-exact : goal.returns-in-Err-Over-clause-exact
returns-in-Err-Over-clause-exact g c =
    eval_over (tagged_of c.args.t.now) (before_of c.args.env.now) c.args.allowance _ _ _ _ c.begin-progress.ensures.own
    c.begin-progress.ensures.looks c.begin-progress.ensures.left c.begin-progress.ensures.slack
    (rw c.in-Err-Over.field-0-is at c.in-Err-Over.ensures.gives)
