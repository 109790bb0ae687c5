use Rattle.std.proofs.Common.{◌∙◌}
use Rattle.tx_prim.proofs.Digits.{whole_over, product_over, sum_over, sum_is, measured_is}
use Rattle.tx_prim.proofs.lengths.measured_length.Goals as goal

pub returns-in_err-whole : goal.returns-in_err-whole
returns-in_err-whole c =
    rw c.from_residual-in_err-whole.ensures
    (whole_over c.args.minus c.args.whole.now c.args.decimals.now c.args.unit.now c.in_ok-unit.unit
    c.in_ok-unit.ensures.is c.in_ok-unit.ensures.some c.in_err-whole.ensures)

pub returns-in_err-checked_mul : goal.returns-in_err-checked_mul
returns-in_err-checked_mul c =
    rw c.from_residual-in_err-checked_mul.ensures
    (product_over c.args.minus c.args.whole.now c.args.decimals.now c.args.unit.now c.in_ok-unit.unit
    c.in_ok-whole.whole c.in_ok-unit.ensures.is c.in_ok-whole.ensures.1 c.in_err-checked_mul.ensures)

pub returns-in_err-size : goal.returns-in_err-size
returns-in_err-size c =
    rw c.from_residual-in_err-size.ensures
    (sum_over c.args.minus c.args.whole.now c.args.decimals.now c.args.unit.now c.in_ok-unit.unit c.in_ok-whole.whole
    c.in_ok-checked_mul.field-0 c.first_three.result c.in_ok-unit.ensures.is c.in_ok-whole.ensures.1
    c.in_ok-checked_mul.ensures.1
    c.first_three.ensures.value c.in_err-size.ensures)

pub returns : goal.returns
returns c =
    c.signed.ensures
    ∙ measured_is c.args.minus c.args.whole.now c.args.decimals.now c.args.unit.now c.in_ok-unit.unit c.in_ok-size.size
    c.in_ok-unit.ensures.is
    (c.in_ok-size.ensures.1
    ∙ sum_is c.args.whole.now c.args.decimals.now c.in_ok-unit.unit c.in_ok-whole.whole c.in_ok-checked_mul.field-0
    c.first_three.result c.in_ok-whole.ensures.1 c.in_ok-checked_mul.ensures.1
    c.first_three.ensures.value)
