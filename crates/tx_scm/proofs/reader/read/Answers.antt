use Rattle.tx_scm.proofs.Exact.{found, none}
use Rattle.tx_scm.proofs.reader.read.Goals as goal

pub returns-in-Some-clause-found : goal.returns-in-Some-clause-found
returns-in-Some-clause-found g c =
    (found c.args.bytes.now c.in-Some.tree (rw c.in-Some.is at c.in_ok-tree.ensures.found)).0

pub fault-requires : goal.fault-requires
fault-requires g c = none c.args.bytes.now (rw c.in-None.is at c.in_ok-tree.ensures.found)
