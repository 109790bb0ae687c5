use Rattle.tx_lines.proofs.Places.{parts_of_cuts}
use Rattle.tx_lines.proofs.first_fit.nothing_lost.Goals as goal

pub returns : goal.returns
returns c pieces first later lines h = parts_of_cuts pieces lines 0 h.in_order
