use Rattle.std.proofs.Common.{◌∙◌, arith}
use Rattle.tx_terminal.proofs.Emulating.{number_step}
use Rattle.tx_terminal.proofs.numbers.number_of.Goals as goal

pub loop-digit-preserved : goal.loop-digit-preserved
loop-digit-preserved c = record {
  few = omega (arith, c.next_number-number.ensures);
  same = number_step c.args.digits.now c.loop-digit.digit-index c.loop-digit.number c.next_number-number.result
      (omega arith) c.next_number-number.ensures
      ∙ c.loop-digit.invariant.same;
}
