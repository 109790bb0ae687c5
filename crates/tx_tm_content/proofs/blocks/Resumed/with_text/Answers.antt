use Rattle.tx_tm_content.proofs.blocks.Resumed.with_text.Goals as goal

pub returns-in-None : goal.returns-in-None
returns-in-None c = λ k h. let i = rw c.in-None.is at c.in_ok-with_text.ensures in i k h.1
