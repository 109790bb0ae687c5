use Rattle.std.proofs.Common.{true}
use Rattle.tx_layout.specs.Frames.{line_frame}
use Rattle.tx_layout.specs.Shapes.{items_shown}
use Rattle.tx_layout.proofs.Kept.{clusters_kept, gaps_kept}
use Rattle.tx_layout.proofs.layout.items_kept.Goals as goal

pub returns-clause-clusters : goal.returns-clause-clusters
returns-clause-clusters c = λ p width lines. clusters_kept (line_frame p width) true (items_shown p width) lines

pub returns-clause-gaps : goal.returns-clause-gaps
returns-clause-gaps c = λ p width lines h. gaps_kept (line_frame p width) h true (items_shown p width) lines
