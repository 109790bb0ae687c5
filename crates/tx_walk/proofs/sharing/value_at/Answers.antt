use Rattle.std.proofs.Common.{sym, ◌∙◌, length, eqb-true}
use Rattle.std.proofs.lemmas.Result.{IfOk-weaker}
use Rattle.tx_walk.proofs.Roots.{same_at_root}
use Rattle.tx_walk.proofs.sharing.value_at.Goals as goal

pub returns-then-is_empty : goal.returns-then-is_empty
returns-then-is_empty c =
    IfOk-weaker c.share.result _ _
    (λ v h. h ∙ same_at_root c.args.path.now c.steps.result.now c.args.value.now c.steps.ensures
    (eqb-true (length c.steps.result.now) 0 (sym c.is_empty.ensures ∙ c.if-is_empty.true)))
    c.share.ensures
