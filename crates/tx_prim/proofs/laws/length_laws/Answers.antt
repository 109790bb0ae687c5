use Rattle.tx_prim.proofs.Printing.{length_read, length_unread}
use Rattle.tx_prim.proofs.laws.length_laws.Goals as goal

pub returns-clause-read : goal.returns-clause-read
returns-clause-read c = length_read

pub returns-clause-unread : goal.returns-clause-unread
returns-clause-unread c = length_unread
