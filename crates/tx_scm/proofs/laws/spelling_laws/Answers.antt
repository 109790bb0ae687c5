use Rattle.tx_scm.proofs.Complete.{spelled_once}
use Rattle.tx_scm.proofs.Spelled.{well_formed}
use Rattle.tx_scm.proofs.laws.spelling_laws.Goals as goal

pub returns-clause-once : goal.returns-clause-once
returns-clause-once c = spelled_once

pub returns-clause-well_formed : goal.returns-clause-well_formed
returns-clause-well_formed c = well_formed
