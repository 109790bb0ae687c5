use Rattle.std.proofs.Common.{arith}
use Rattle.tx_tm_form.specs.Parts.{gap}
use Rattle.tx_tm_content.specs.Blocks.{content_of}
use Rattle.tx_tm_content.specs.ContentNodes.{content_nodes}
use Rattle.tx_tm_read.specs.Spots.{opens_of}
use Rattle.tx_tm_read.proofs.Stuck.{rises}
use Rattle.tx_tm_read.proofs.walk.put_white.Goals as goal

pub returns-in-None-clause-next : goal.returns-in-None-clause-next
returns-in-None-clause-next c = let next = rw c.in-None.is at c.in_ok-with_white.ensures.next in λ h. next _ h.0

pub returns-in-Some-clause-counted : goal.returns-in-Some-clause-counted
returns-in-Some-clause-counted c =
    let next = rw c.in-Some.is at c.in_ok-with_white.ensures.next in
    let counted = rw c.in-Some.is at c.in_ok-with_white.ensures.counted in
    rises 0 0 (content_nodes (content_of c.args.here)) (content_of c.args.here) (content_of c.in-Some.here)
    (gap c.args.white) (opens_of c.args.opens.items) next (omega (arith, counted))
