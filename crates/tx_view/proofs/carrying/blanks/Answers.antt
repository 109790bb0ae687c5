use Rattle.tx_view.proofs.Blank.{blank_next}
use Rattle.tx_view.proofs.carrying.blanks.Goals as goal

pub loop-unit-preserved : goal.loop-unit-preserved
loop-unit-preserved c =
    blank_next c.args.units.now c.loop-unit.unit-index c.unit-item.result c.loop-unit.all.items c.push.new.self.items
    c.in_ok-own.own c.loop-unit-test.true c.unit-item.is c.loop-unit.invariant c.in_ok-own.ensures
    c.in_ok-push.ensures.items
