use Rattle.std.proofs.Common.{◌≡◌, ◌++◌, List, ℕ, sym, ◌∙◌}
use Rattle.tx_unit_layout.specs.Views.{unit_view}
use Rattle.tx_view.proofs.RowAlone.{row_alone_none, row_alone_below, row_alone_not}
use Rattle.tx_view.proofs.moves.row_alone.Goals as goal

pub returns-in-None : goal.returns-in-None
returns-in-None c =
    row_alone_not (unit_view c.args.unit.now) c.args.at.now c.in-Some.path c.in-Some.is
    (λ rest e. c.in-None.ensures rest (c.steps.ensures ∙ e))

pub returns-in-Some-steps_after : goal.returns-in-Some-steps_after
returns-in-Some-steps_after c =
    row_alone_below (unit_view c.args.unit.now) c.args.at.now c.in-Some.path c.in-Some-steps_after.steps.now
    c.row_after.result c.in-Some.is (sym c.steps.ensures ∙ c.in-Some-steps_after.ensures) c.row_after.ensures
