use Rattle.tx_tm_content.specs.Blocks.{block_of}
use Rattle.tx_tm_content.proofs.Widening.{text_stuck}
use Rattle.tx_tm_content.proofs.blocks.Paragraphs.with_text.Goals as goal

pub returns-in-None-clause-next : goal.returns-in-None-clause-next
returns-in-None-clause-next g c =
    text_stuck (block_of c.args.self) c.args.items.now (rw c.in-None.is at c.in_ok-resume.ensures.next)
