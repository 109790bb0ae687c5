use Rattle.std.proofs.Common.{◌∙◌, sym}
use Rattle.std.proofs.lemmas.Bool.{eqb-true}
use Rattle.tx_cmd.proofs.LooseFronts.{some_left, misfit_first, misfit_later}
use Rattle.tx_cmd.proofs.pieces.+misfit.Goals as goal

pub returns-then-is_empty-2-clause-misfit : goal.returns-then-is_empty-2-clause-misfit
returns-then-is_empty-2-clause-misfit t c =
    some_left c.args.arguments.now c.args.bytes.now c.in-len1-up.len_at_least
    (eqb-true _ _ (sym c.is_empty-2.ensures ∙ c.if-is_empty-2.true))

pub returns-in-Some-clause-misfit : goal.returns-in-Some-clause-misfit
returns-in-Some-clause-misfit t c =
    misfit_first c.args.arguments.now c.args.bytes.now c.cut.result.0.now c.cut.result.1.now c.in-Some.place
    c.in-len1-up.len_at_least c.cut.ensures (rw c.in-Some.is at c.in_ok-place.ensures.misfit)

pub returns-in-Some-2-clause-misfit : goal.returns-in-Some-2-clause-misfit
returns-in-Some-2-clause-misfit t c =
    misfit_later c.args.arguments.now c.args.bytes.now c.cut.result.0.now c.cut.result.1.now c.in-Some-2.place
    c.in-len1-up.len_at_least c.requires.ordered c.cut.ensures
    (rw c.in_default-2.is at c.in_ok-place.ensures.misfit) (rw c.in-Some-2.is at c.in_ok-misfit.ensures.misfit)
