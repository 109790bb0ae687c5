use Rattle.tx_tm_content.proofs.blocks.spaced.Goals as goal

pub returns-in-None : goal.returns-in-None
returns-in-None c = λ k h j. let i = rw c.in-None.is at c.in_ok-with_white.ensures in i k j
