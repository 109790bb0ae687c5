use Rattle.tx_part_layout.proofs.ShapesUnder.{are_lines_under}
use Rattle.tx_part_layout.proofs.PageEnds.{told_under}
use Rattle.tx_part_layout.proofs.under.lines_under_law.Goals as goal

pub returns : goal.returns
returns c = record { lines = are_lines_under; told = told_under }
