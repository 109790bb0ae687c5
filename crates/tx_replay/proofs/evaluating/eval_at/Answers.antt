use Rattle.std.proofs.Common.{ap, ◌∙◌}
use Rattle.std.proofs.lemmas.Result.{IfOk-weaker}
use Rattle.tx_exec.specs.States.{before_of}
use Rattle.tx_exec_form.specs.Evaluated.{evaluated}
use Rattle.tx_replay.proofs.evaluating.eval_at.Goals as goal

pub returns-clause-exact : goal.returns-clause-exact
returns-clause-exact g c =
    IfOk-weaker c.eval.result _ _ (λ o h. h
    ∙ ap (λ t. evaluated (record { tree = t; at = c.args.at }) (before_of c.args.env.now) c.args.left)
    c.in_ok-share.ensures) c.eval.ensures.exact
