use Rattle.std.proofs.Common.{refl, Some}
use Rattle.tx_tm_form.specs.Machine.{open_with_child}
use Rattle.tx_tm_content.specs.ContentNodes.{line_nodes}
use Rattle.tx_tm_read.specs.Spots.{open_of, opens_of}
use Rattle.tx_tm_read.proofs.Stuck.{tag_rose}
use Rattle.tx_tm_read.proofs.walk.bar_in.Goals as goal

pub returns-in-Some-clause-counted : goal.returns-in-Some-clause-counted
returns-in-Some-clause-counted g c =
    let counted = rw c.in-Some.is at c.in_ok-finish.ensures.counted in
    tag_rose _ _ (line_nodes c.args.line) (Some c.args.place) (open_of c.args.tag) c.in-Some.child
    (opens_of c.args.opens.items) (open_with_child (open_of c.args.tag) c.in-Some.child) _ refl c.go_on.ensures counted
