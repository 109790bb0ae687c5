use Rattle.tx_parts.proofs.Standing.{parts_stand, parts_differ}
use Rattle.tx_parts.proofs.laws.standing_law.Goals as goal

pub returns : goal.returns
returns c = record { stand = parts_stand; distinct = parts_differ }
