use Rattle.std.proofs.Common.{refl}
use Rattle.tx_tm_form.specs.Growing.{tree_of_block}
use Rattle.tx_tm_form.specs.Machine.{open_with_child}
use Rattle.tx_tm_content.specs.Blocks.{block_of}
use Rattle.tx_tm_content.specs.ContentNodes.{block_nodes}
use Rattle.tx_tm_read.specs.Spots.{open_of, opens_of}
use Rattle.tx_tm_read.proofs.Stuck.{close_rose, closed_stuck}
use Rattle.tx_tm_read.proofs.walk.block_in.Goals as goal

pub returns-in-None-clause-next : goal.returns-in-None-clause-next
returns-in-None-clause-next g c =
    closed_stuck (open_of c.args.tag) (tree_of_block (block_of c.args.block)) (opens_of c.args.opens.items)
    (rw c.in-None.is at c.in_ok-finish.ensures.made)

pub returns-in-Some-clause-counted : goal.returns-in-Some-clause-counted
returns-in-Some-clause-counted g c =
    let counted = rw c.in-Some.is at c.in_ok-finish.ensures.counted in
    close_rose _ _ _ (block_nodes (block_of c.args.block)) (open_of c.args.tag) c.in-Some.child
    (opens_of c.args.opens.items) (open_with_child (open_of c.args.tag) c.in-Some.child) _ refl c.close.ensures.counted
    counted
