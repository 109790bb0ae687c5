use Rattle.tx_part_layout.proofs.Lowered.{same_part}
use Rattle.tx_part_layout.proofs.laid.PlacedPart.put_below.Goals as goal

pub returns : goal.returns
returns c = same_part _ _ _ _ _ _ _ _ _ _ _ _ _ _ _ _ _ _
