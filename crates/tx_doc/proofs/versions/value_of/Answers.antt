use Rattle.std.proofs.Common.{◌-◌, get_or, arith, ◌∙◌}
use Rattle.std.proofs.lemmas.List.{at_drop_more}
use Rattle.tx_tree.specs.PathSpelling.{number_after}
use Rattle.tx_doc.proofs.Versioning.{few_tens, one_more, next_digit}
use Rattle.tx_doc.proofs.versions.value_of.Goals as goal

pub overflow_mul-value : goal.overflow_mul-value
overflow_mul-value c =
    let few = c.requires.few in
    omega (arith, c.loop-digit.invariant.2, few_tens c.loop-digit.digit-index (omega arith))

pub overflow_add-value : goal.overflow_add-value
overflow_add-value c =
    let few = c.requires.few in
    let d = next_digit c.args.digits.now c.loop-digit.digit-index c.loop-digit-test.true c.loop-digit.invariant.1 in
    omega (arith, c.from.ensures, d.0, c.loop-digit.invariant.2, few_tens c.loop-digit.digit-index (omega arith))

pub loop-digit-preserved : goal.loop-digit-preserved
loop-digit-preserved c =
    let i = c.loop-digit.digit-index in
    let digits = c.args.digits.now in
    let d = next_digit digits i c.loop-digit-test.true c.loop-digit.invariant.1 in
    rw c.from.ensures (
      c.loop-digit.invariant.0 ∙ at_drop_more (number_after c.loop-digit.value) digits i 0 c.loop-digit-test.true,
      d.1,
      one_more i c.loop-digit.value (get_or digits i 0 - 48) c.loop-digit.invariant.2 d.0,
    )
