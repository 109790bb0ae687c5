use Rattle.tx_parts.proofs.Maps.{atop_nothing, atop_set}
use Rattle.tx_parts.proofs.PartRuns.{atop_twice}
use Rattle.tx_parts.proofs.Pairing.{overlaid_is}
use Rattle.tx_parts.proofs.laws.atop_law.Goals as goal

pub returns : goal.returns
returns c = record { twice = atop_twice; nothing = atop_nothing; set = atop_set; overlaid = overlaid_is }
