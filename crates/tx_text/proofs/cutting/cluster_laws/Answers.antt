use Rattle.tx_text.proofs.Holding.{holds}
use Rattle.tx_text.proofs.Reading.{items_again}
use Rattle.tx_text.proofs.cutting.cluster_laws.Goals as goal

pub returns-clause-items : goal.returns-clause-items
returns-clause-items c = items_again

pub returns-clause-places : goal.returns-clause-places
returns-clause-places c = holds
