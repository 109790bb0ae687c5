use Rattle.tx_tm_content.specs.Blocks.{content_of}
use Rattle.tx_tm_read.specs.Spots.{opens_of}
use Rattle.tx_tm_read.proofs.Running.{white_none, white_some}
use Rattle.tx_tm_read.proofs.reader.with_white.Goals as goal

pub returns-in-None-clause-next : goal.returns-in-None-clause-next
returns-in-None-clause-next c =
    let next = rw c.in-None.is at c.in_ok-put_white.ensures.next in
    white_none (content_of c.args.here) (opens_of c.args.opens.items) c.args.taken c.args.rest.now c.args.white
    c.requires.some c.requires.within c.requires.white next

pub returns-in-Some-clause-next : goal.returns-in-Some-clause-next
returns-in-Some-clause-next c =
    let next = rw c.in-Some.is at c.in_ok-put_white.ensures.next in
    white_some (content_of c.args.here) (opens_of c.args.opens.items) c.args.taken c.args.rest.now c.args.white
    c.in-Some.spot c.requires.some c.requires.within c.requires.white next
