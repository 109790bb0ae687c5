use Rattle.tx_tm_form.specs.Growing.{as_block, tree_of_block}
use Rattle.tx_tm_content.specs.Blocks.{tags_of}
use Rattle.tx_tm_content.proofs.Fitting.{tree_fits, within_small}
use Rattle.tx_tm_content.proofs.blocks.TagList.finish.Goals as goal

pub returns-in-None-clause-made : goal.returns-in-None-clause-made
returns-in-None-clause-made g c =
    let next = rw c.in-None.is at c.in_ok-into_paragraphs.ensures.next in
    λ h. next 0
    (tree_fits 0 (as_block (tags_of c.args.self)) (within_small (tree_of_block (as_block (tags_of c.args.self))) h))
