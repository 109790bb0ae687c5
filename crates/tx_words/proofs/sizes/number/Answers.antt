use Rattle.std.proofs.Common.{◌∙◌, arith, sym, subst, length, ◌≤◌}
use Rattle.std.specs.Prelude.{IfSome}
use Rattle.tx_tree.specs.PathSpelling.{IsNumber}
use Rattle.tx_words.proofs.Parsed.{parsed, not_parsed, is_unsigned}
use Rattle.tx_words.proofs.sizes.number.Goals as goal

pub returns-clause-some : goal.returns-clause-some
returns-clause-some c =
    let short : length c.args.digits.now ≤ 10 = omega (arith, c.if-digits-gt-MOST_DIGITS.false) in
    let unsigned = is_unsigned _ (c.if-starts_with.ensures.byte (omega arith) (omega arith) (λ w o h. h)) in
    subst (λ o. IfSome o (λ n. IsNumber c.args.digits.now n)) (sym c.ok.ensures.value)
    (parsed c.args.digits.now c.parse.result c.parse.ensures.value.0 short unsigned)

pub returns-clause-none : goal.returns-clause-none
returns-clause-none c none n =
    let unsigned = is_unsigned _ (c.if-starts_with.ensures.byte (omega arith) (omega arith) (λ w o h. h)) in
    not_parsed c.args.digits.now c.parse.result n c.parse.ensures.value.0 unsigned (sym c.ok.ensures.value ∙ none)
