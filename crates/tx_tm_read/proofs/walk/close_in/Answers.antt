use Rattle.std.proofs.Common.{refl}
use Rattle.tx_tm_form.specs.Machine.{open_with_child}
use Rattle.tx_tm_content.specs.ContentNodes.{line_nodes}
use Rattle.tx_tm_read.specs.Spots.{open_of, opens_of}
use Rattle.tx_tm_read.proofs.Stuck.{close_rose, last_stuck, last_is}
use Rattle.tx_tm_read.proofs.walk.close_in.Goals as goal

pub returns-in-None-clause-next : goal.returns-in-None-clause-next
returns-in-None-clause-next g c =
    last_stuck c.args.place c.args.line (open_of c.args.tag) (opens_of c.args.opens.items)
    (rw c.in-None.is at c.in_ok-finish.ensures.made)

pub returns-in-Some-clause-next : goal.returns-in-Some-clause-next
returns-in-Some-clause-next g c =
    let made = rw c.in-Some.is at c.in_ok-finish.ensures.made in
    last_is c.args.place c.args.line (open_of c.args.tag) (opens_of c.args.opens.items) c.in-Some.child _ made
    c.argument_in.ensures.next

pub returns-in-Some-clause-counted : goal.returns-in-Some-clause-counted
returns-in-Some-clause-counted g c =
    let counted = rw c.in-Some.is at c.in_ok-finish.ensures.counted in
    close_rose _ _ _ (line_nodes c.args.line) (open_of c.args.tag) c.in-Some.child (opens_of c.args.opens.items)
    (open_with_child (open_of c.args.tag) c.in-Some.child) _ refl c.argument_in.ensures.counted counted
