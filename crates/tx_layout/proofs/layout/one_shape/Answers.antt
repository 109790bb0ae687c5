use Rattle.std.proofs.Common.{true}
use Rattle.tx_layout.specs.Frames.{line_frame}
use Rattle.tx_layout.specs.Shapes.{items_shown}
use Rattle.tx_layout.proofs.Once.{shape_once}
use Rattle.tx_layout.proofs.layout.one_shape.Goals as goal

pub returns : goal.returns
returns c = λ p width lines others. shape_once (line_frame p width) true (items_shown p width) lines others
