use Rattle.std.proofs.Common.{arith}
use Rattle.tx_tm_content.specs.Blocks.{tags_of}
use Rattle.tx_tm_content.proofs.Counts.{tag_more}
use Rattle.tx_tm_content.proofs.Widening.{line_tagged}
use Rattle.tx_tm_content.proofs.blocks.Body.with_tag.Goals as goal

pub returns-in-None-clause-next : goal.returns-in-None-clause-next
returns-in-None-clause-next g c =
    λ k. rw c.in-Argument.is (let h = rw c.in-None.is at c.in_ok-with_tag-in-Argument.ensures in h k)

pub returns-in-Some-clause-counted : goal.returns-in-Some-clause-counted
returns-in-Some-clause-counted g c =
    let next = rw c.in-Some.is at c.in_ok-with_tag-in-Argument.ensures in
    rw c.in-Argument.is (line_tagged c.in-Argument.line c.in-Some.line c.args.tree _ next)

pub returns-in-Some-3-clause-counted : goal.returns-in-Some-3-clause-counted
returns-in-Some-3-clause-counted g c =
    let next = rw c.in-Some-3.is at c.in_ok-with-in-Tags.ensures in
    rw c.in-Tags.is
    (omega (arith, tag_more (tags_of c.in-Some-3.tags) (tags_of c.in-Tags.tags) c.args.collects c.args.tree next))
