use Rattle.tx_tm_form.specs.Parts.{text}
use Rattle.tx_tm_form.specs.Growing.{as_block}
use Rattle.tx_tm_content.specs.Blocks.{tags_of}
use Rattle.tx_tm_content.proofs.Fitting.{widen_fits}
use Rattle.tx_tm_content.proofs.blocks.TagList.with_text.Goals as goal

pub returns-in-None-clause-next : goal.returns-in-None-clause-next
returns-in-None-clause-next g c =
    let next = rw c.in-None.is at c.in_ok-into_paragraphs.ensures.next in
    λ k h. next k (widen_fits k (as_block (tags_of c.args.self)) (text c.args.items.now) h)
