use Rattle.std.proofs.Common.{FitsSigned, rules, pos}
use Rattle.std.specs.Int.{w64}
use Rattle.tx_prim.specs.declared.amounts.Amount.TheVariants.{Number}
use Rattle.tx_prim.proofs.Folding.{folded_next}
use Rattle.tx_prim.proofs.arithmetic.folded.Goals as goal

pub loop-other-preserved : goal.loop-other-preserved
loop-other-preserved c =
    let f : FitsSigned w64 c.size.result = search rules in
    let g : FitsSigned w64 c.in_ok-so_far.so_far = search rules in
    folded_next c.args.operation _ _ c.in_ok-so_far.so_far c.size.result c.args.others.now c.loop-other.other-index
    (Number (pos 0)) c.loop-other-test.true c.loop-other.invariant c.size.ensures f g
    c.in_ok-so_far.ensures
