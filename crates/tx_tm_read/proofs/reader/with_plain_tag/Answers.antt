use Rattle.tx_tm_content.specs.Blocks.{content_of}
use Rattle.tx_tm_read.specs.Spots.{opens_of}
use Rattle.tx_tm_read.proofs.PlainTagging.{tag_none, tag_some}
use Rattle.tx_tm_read.proofs.reader.with_plain_tag.Goals as goal

pub returns-in-None-clause-next : goal.returns-in-None-clause-next
returns-in-None-clause-next g c =
    let next = rw c.in-None.is at c.in_ok-put_node.ensures.next in
    λ j.
    tag_none j (content_of c.args.here) (opens_of c.args.opens.items) c.args.found c.args.rest.now c.args.children.items
    c.args.count c.requires.there c.requires.more c.requires.arguments next

pub returns-in-Some-clause-next : goal.returns-in-Some-clause-next
returns-in-Some-clause-next g c =
    let next = rw c.in-Some.is at c.in_ok-put_node.ensures.next in
    λ j.
    tag_some j (content_of c.args.here) (opens_of c.args.opens.items) c.args.found c.args.rest.now c.args.children.items
    c.args.count c.requires.there c.requires.more c.requires.arguments c.in-Some.spot next
