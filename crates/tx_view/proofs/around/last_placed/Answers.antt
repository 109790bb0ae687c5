use Rattle.std.proofs.Common.{◌-◌, arith, sym, ap, ◌∙◌, is_some}
use Rattle.tx_unit_layout.specs.declared.shown.Shown.{Shown}
use Rattle.tx_view.proofs.Placed.{some_from}
use Rattle.tx_view.proofs.around.last_placed.Goals as goal

pub returns-then-is_some-clause-none : goal.returns-then-is_some-clause-none
returns-then-is_some-clause-none c = λ e.
    absurd (some_from c.args.units.now (c.loop-k.k - 1) c.index-units-k.result
    (omega (arith, c.loop-k-test.true, c.loop-k.invariant)) c.index-units-k.is
    (ap (λ (x : Shown). is_some x.path) c.index-units-k.is ∙ sym c.is_some.ensures ∙ c.if-is_some.true) e)
