use Rattle.tx_parts.proofs.Standing.{parts_by_stand, parts_by_differ}
use Rattle.tx_parts.proofs.shell_laws.opened_standing_law.Goals as goal

pub returns : goal.returns
returns c = record { stand = parts_by_stand; distinct = parts_by_differ }
