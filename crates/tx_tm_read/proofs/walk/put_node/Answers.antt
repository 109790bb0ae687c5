use Rattle.std.proofs.Common.{false}
use Rattle.tx_tree.specs.WideTree.{node, forest}
use Rattle.tx_tm_content.specs.Blocks.{content_of}
use Rattle.tx_tm_read.specs.Spots.{opens_of}
use Rattle.tx_tm_read.proofs.Stuck.{tag_stuck_there}
use Rattle.tx_tm_read.proofs.walk.put_node.Goals as goal

pub returns-in-None-clause-next : goal.returns-in-None-clause-next
returns-in-None-clause-next g c =
    tag_stuck_there (content_of c.args.before) false (node c.args.label (forest c.args.children.items))
    (opens_of c.args.opens.items) (rw c.in-None.is at c.in_ok-make_node.ensures.made)
