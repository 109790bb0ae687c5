use Rattle.tx_tm_content.proofs.blocks.Body.with_white.Goals as goal

pub returns-in-None-clause-next : goal.returns-in-None-clause-next
returns-in-None-clause-next c =
    λ k. rw c.in-Argument.is (let h = rw c.in-None.is at c.in_ok-with_white-in-Argument.ensures in h k)
