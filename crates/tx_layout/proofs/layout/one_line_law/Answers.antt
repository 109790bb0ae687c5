use Rattle.tx_layout.proofs.OneLines.{paragraph_one}
use Rattle.tx_layout.proofs.layout.one_line_law.Goals as goal

pub returns : goal.returns
returns c = λ p width lines. paragraph_one p width lines
