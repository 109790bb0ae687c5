use Rattle.std.proofs.Common.{arith}
use Rattle.std.proofs.lemmas.Bool.Decides.{nat_tests}
use Rattle.tx_words.proofs.Cuts.{last_is}
use Rattle.tx_words.proofs.names.behind_last.Goals as goal

pub returns-else-bytes-end-clause-value : goal.returns-else-bytes-end-clause-value
returns-else-bytes-end-clause-value c =
    last_is _ _ _ c.loop-end.invariant.within c.loop-end.invariant.above (λ lt. grind (arith, nat_tests))

pub returns-after-loop-end-clause-value : goal.returns-after-loop-end-clause-value
returns-after-loop-end-clause-value c =
    last_is _ _ _ c.loop-end.invariant.within c.loop-end.invariant.above (λ lt. absurd (omega arith))
