use Rattle.tx_existence.proofs.Shaping.{some_shape}
use Rattle.tx_existence.proofs.laws.some_shape.Goals as goal

pub returns : goal.returns
returns c = some_shape
