use Rattle.std.proofs.Common.{refl}
use Rattle.tx_tm_form.specs.Machine.{open_with_child}
use Rattle.tx_tm_content.specs.Blocks.{content_of}
use Rattle.tx_tm_content.specs.ContentNodes.{content_nodes}
use Rattle.tx_tm_read.specs.Spots.{open_of, opens_of}
use Rattle.tx_tm_read.proofs.Stuck.{tag_rose, block_stuck}
use Rattle.tx_tm_read.proofs.walk.behind_block.Goals as goal

pub returns-in-None-clause-next : goal.returns-in-None-clause-next
returns-in-None-clause-next g c =
    block_stuck (content_of c.args.here) c.args.label.now c.args.place (open_of c.args.tag)
    (opens_of c.args.opens.items) (rw c.in-None.is at c.in_ok-finish_block.ensures.made)

pub returns-in-Some-clause-counted : goal.returns-in-Some-clause-counted
returns-in-Some-clause-counted g c =
    let counted = rw c.in-Some.is at c.in_ok-finish_block.ensures.counted in
    tag_rose _ _ (content_nodes (content_of c.args.here)) c.args.place (open_of c.args.tag) c.in-Some.child
    (opens_of c.args.opens.items) (open_with_child (open_of c.args.tag) c.in-Some.child) _ refl c.go_on.ensures counted
