use Rattle.tx_tm_read.specs.Spots.{open_of, opens_of}
use Rattle.tx_tm_read.proofs.Stuck.{row_stuck}
use Rattle.tx_tm_read.proofs.tags.OpenTag.close.Goals as goal

pub returns-in-None-clause-next : goal.returns-in-None-clause-next
returns-in-None-clause-next g c =
    row_stuck (open_of c.args.self) c.args.child (opens_of c.args.opens.items)
    (rw c.in-None.is at c.in_ok-with_child.ensures)
