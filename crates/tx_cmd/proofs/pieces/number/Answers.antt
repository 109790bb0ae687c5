use Rattle.std.proofs.Common.{◌∙◌, sym, arith}
use Rattle.std.proofs.lemmas.Bool.{eqb-true}
use Rattle.tx_cmd.proofs.Numerals.{number_stops, no_next, read_next, no_number}
use Rattle.tx_cmd.proofs.pieces.number.Goals as goal

pub returns-then-i-ge-MOST_DIGITS-clause-misfit : goal.returns-then-i-ge-MOST_DIGITS-clause-misfit
returns-then-i-ge-MOST_DIGITS-clause-misfit c =
    number_stops c.args.piece.now c.loop-i.i c.loop-i.value c.loop-i-test.true c.loop-i.invariant
    (λ d few. absurd (omega arith))

pub returns-in-None-clause-misfit : goal.returns-in-None-clause-misfit
returns-in-None-clause-misfit c =
    number_stops c.args.piece.now c.loop-i.i c.loop-i.value c.loop-i-test.true c.loop-i.invariant
    (λ d few. no_next _ _ (sym c.next_number.ensures ∙ c.in-None.is) d)

pub loop-i-preserved : goal.loop-i-preserved
loop-i-preserved c =
    read_next c.args.piece.now c.loop-i.i c.loop-i.value _ c.loop-i-test.true c.loop-i.invariant (omega arith)
    (sym c.next_number.ensures ∙ c.in-Some.is)

pub returns-then-is_empty-clause-misfit : goal.returns-then-is_empty-clause-misfit
returns-then-is_empty-clause-misfit c = no_number _ (eqb-true _ _ (sym c.is_empty.ensures ∙ c.if-is_empty.true))
