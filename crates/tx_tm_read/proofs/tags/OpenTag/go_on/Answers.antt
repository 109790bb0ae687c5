use Rattle.tx_tm_read.specs.Spots.{open_of, opens_of}
use Rattle.tx_tm_read.proofs.Stuck.{child_row_stuck}
use Rattle.tx_tm_read.proofs.tags.OpenTag.go_on.Goals as goal

pub returns-in-None : goal.returns-in-None
returns-in-None c =
    child_row_stuck c.args.place (open_of c.args.self) c.args.child (opens_of c.args.opens.items)
    (rw c.in-None.is at c.in_ok-with_child.ensures)
