use Rattle.tx_parts.proofs.PartRuns.{part_is, kept_is, too_dear_is, none_allowed}
use Rattle.tx_parts.proofs.laws.part_law.Goals as goal

pub returns : goal.returns
returns c = record { part = part_is; kept = kept_is; too_dear = too_dear_is; over = none_allowed }
