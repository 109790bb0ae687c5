use Rattle.std.proofs.Common.{◌≢◌, ◌∙◌, Some, sym, ap, subst}
use Rattle.tx_tree.specs.Labels.{IsLabelFault}
use Rattle.tx_tree.specs.declared.labels.LabelFault.TheVariants.{BadLabel, Memory}
use Rattle.tx_cmd.specs.Pieces.{IsPieceMisfit}
use Rattle.tx_cmd.proofs.Faults.{err_there}
use Rattle.tx_cmd.proofs.pieces.piece_misfit.Goals as goal

pub returns-in-Err-clause-misfit : goal.returns-in-Err-clause-misfit
returns-in-Err-clause-misfit c =
    subst (λ a. IsPieceMisfit a c.args.piece.now (Some c.in-Err.place)) (sym c.in-Number.is) c.in-Err.ensures.misfit

pub returns-in-Some-BadLabel-clause-misfit : goal.returns-in-Some-BadLabel-clause-misfit
returns-in-Some-BadLabel-clause-misfit c =
    let fault = err_there (λ f. f ≢ Memory → IsLabelFault c.args.piece.now f) c.new.result
    (BadLabel c.in-Some-BadLabel.place) (sym c.err.ensures.value ∙ c.in-Some-BadLabel.is
    ∙ ap (λ x. Some x) c.in-Some-BadLabel.field-0-is) c.new.ensures.refused in
    subst (λ a. IsPieceMisfit a c.args.piece.now (Some c.in-Some-BadLabel.place)) (sym c.in-Label.is) (fault (λ e. cc))
