use Rattle.tx_units.proofs.Placing.{body_stands, body_apart}
use Rattle.tx_units.proofs.laws.body_laws.Goals as goal

pub returns-clause-stand : goal.returns-clause-stand
returns-clause-stand c = body_stands

pub returns-clause-apart : goal.returns-clause-apart
returns-clause-apart c = body_apart
