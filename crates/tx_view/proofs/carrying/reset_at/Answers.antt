use Rattle.std.proofs.Common.{arith, rules}
use Rattle.tx_view.proofs.Leaving.{was_shown}
use Rattle.tx_view.proofs.Staying.{stay_all, stay_but}
use Rattle.tx_view.proofs.carrying.reset_at.Goals as goal

pub returns-in_err-attrs-clause-stay : goal.returns-in_err-attrs-clause-stay
returns-in_err-attrs-clause-stay c =
    stay_but c.args.places.items c.args.unit 0 c.args.unit c.args.all.now c.index-all-unit.result c.reset-laid.new.shown
    (omega arith) c.if-unit-all.true c.reset-laid.ensures.shown

pub returns-then-unit-all-clause-stay : goal.returns-then-unit-all-clause-stay
returns-then-unit-all-clause-stay c =
    stay_but c.args.places.items c.args.unit 0 c.args.unit c.args.all.now c.index-all-unit.result c.reset-laid.new.shown
    (omega arith) c.if-unit-all.true c.reset-laid.ensures.shown

pub returns-then-unit-all-clause-former : goal.returns-then-unit-all-clause-former
returns-then-unit-all-clause-former c =
    was_shown c.args.all.now c.args.unit c.index-all-unit.result c.reset-laid.result.0 c.in_ok-attrs.attrs
    c.reset-laid.result.1 c.if-unit-all.true c.reset-laid.ensures.attrs (search rules) c.reset-laid.ensures.unmarked

pub returns-clause-stay : goal.returns-clause-stay
returns-clause-stay c =
    stay_all c.args.places.items c.args.unit 0 c.args.all.now (λ n l e. omega (arith, l, e, c.if-unit-all.false))
