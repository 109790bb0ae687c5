use Rattle.tx_prim.proofs.Digits.{too_many, at_end}
use Rattle.tx_prim.proofs.numbers.digits_value.Goals as goal

pub returns-in_err-value : goal.returns-in_err-value
returns-in_err-value c =
    rw c.from_residual.ensures
    (too_many c.args.digits.now c.loop-digit.digit-index c.loop-digit.value c.loop-digit-test.true
    c.loop-digit.invariant.0 c.in_err-value.ensures)

pub returns : goal.returns
returns c =
    at_end c.args.digits.now c.loop-digit.digit-index c.loop-digit.value c.loop-digit-test.false
    c.loop-digit.invariant.2 c.loop-digit.invariant.0
