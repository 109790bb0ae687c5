use Rattle.tx_tm_content.specs.Blocks.{block_of}
use Rattle.tx_tm_content.proofs.Widening.{tag_stuck, tagged_block, tagged_nodes}
use Rattle.tx_tm_content.proofs.blocks.Paragraphs.with_tag.Goals as goal

pub returns-in-None-clause-next : goal.returns-in-None-clause-next
returns-in-None-clause-next g c =
    tag_stuck (block_of c.args.self) c.args.collects c.args.tree (rw c.in-None.is at c.in_ok-resume.ensures.next)

pub returns-in-Some-clause-next : goal.returns-in-Some-clause-next
returns-in-Some-clause-next g c =
    let next = rw c.in-Some.is at c.in_ok-resume.ensures.next in
    tagged_block (block_of c.args.self) c.args.collects c.args.tree c.in-Some.resumed.full c.in-Some.resumed.now
    c.tag_stage-stage.result _ c.tag_stage-stage.ensures next.full_is next.now_is c.with_tag.ensures

pub returns-in-Some-clause-counted : goal.returns-in-Some-clause-counted
returns-in-Some-clause-counted g c =
    let next = rw c.in-Some.is at c.in_ok-resume.ensures.next in
    let counted = rw c.in-Some.is at c.in_ok-resume.ensures.counted in
    tagged_nodes (block_of c.args.self) c.args.collects c.args.tree c.in-Some.resumed.full c.in-Some.resumed.now
    c.tag_stage-stage.result _ c.resume.new.steps c.args.steps.now c.tag_stage-stage.ensures next.full_is
    next.now_is counted c.with_tag.ensures
