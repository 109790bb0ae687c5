use Rattle.std.proofs.Common.{sym, ◌∙◌}
use Rattle.tx_view.proofs.Placed.{some_up_to}
use Rattle.tx_view.proofs.around.up_to_placed.Goals as goal

pub returns-then-is_some-clause-none : goal.returns-then-is_some-clause-none
returns-then-is_some-clause-none c = λ e.
    absurd (some_up_to c.args.units.now c.loop-k.k c.index-units-k.result c.loop-k-test.true c.index-units-k.is
    (sym c.is_some.ensures ∙ c.if-is_some.true) e)
