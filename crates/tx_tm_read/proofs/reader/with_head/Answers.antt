use Rattle.tx_tm_content.specs.Blocks.{content_of}
use Rattle.tx_tm_read.specs.Spots.{opens_of}
use Rattle.tx_tm_read.proofs.Running.{head_none, head_some}
use Rattle.tx_tm_read.proofs.reader.with_head.Goals as goal

pub returns-in-None-clause-next : goal.returns-in-None-clause-next
returns-in-None-clause-next g c =
    let next = rw c.in-None.is at c.in_ok-begin.ensures.next in
    λ j.
    head_none j (content_of c.args.here) (opens_of c.args.opens.items) c.args.found c.args.rest.now c.requires next

pub returns-in-Some-clause-next : goal.returns-in-Some-clause-next
returns-in-Some-clause-next g c =
    let next = rw c.in-Some.is at c.in_ok-begin.ensures.next in
    λ j.
    head_some j (content_of c.args.here) (opens_of c.args.opens.items) c.args.found c.args.rest.now c.in-Some.spot
    c.requires next
