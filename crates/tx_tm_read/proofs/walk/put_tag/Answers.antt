use Rattle.std.proofs.Common.{◌+◌}
use Rattle.tx_tree.specs.WideTree.{nodes_of}
use Rattle.tx_tm_form.specs.Parts.{tag}
use Rattle.tx_tm_content.specs.Blocks.{content_of}
use Rattle.tx_tm_content.specs.ContentNodes.{content_nodes}
use Rattle.tx_tm_read.specs.Spots.{opens_of}
use Rattle.tx_tm_read.proofs.Stuck.{rises}
use Rattle.tx_tm_read.proofs.walk.put_tag.Goals as goal

pub returns-in-None-clause-next : goal.returns-in-None-clause-next
returns-in-None-clause-next g c = let next = rw c.in-None.is at c.in_ok-with_tag.ensures.next in λ h. next _ h.0

pub returns-in-Some-clause-counted : goal.returns-in-Some-clause-counted
returns-in-Some-clause-counted g c =
    let next = rw c.in-Some.is at c.in_ok-with_tag.ensures.next in
    let counted = rw c.in-Some.is at c.in_ok-with_tag.ensures.counted in
    rises _ _ (content_nodes (content_of c.args.before) + nodes_of c.args.tree) (content_of c.args.before)
    (content_of c.in-Some.here) (tag c.args.collects c.args.tree) (opens_of c.args.opens.items) next counted
