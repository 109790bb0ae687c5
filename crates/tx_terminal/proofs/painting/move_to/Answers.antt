use Rattle.std.proofs.Common.{arith}
use Rattle.tx_terminal.specs.Painting.{move_bytes}
use Rattle.tx_terminal.proofs.Sequences.{moves}
use Rattle.tx_terminal.proofs.painting.move_to.Goals as goal

pub returns-in-Ok-clause-moved : goal.returns-in-Ok-clause-moved
returns-in-Ok-clause-moved c = (
  move_bytes c.args.row c.args.column,
  c.in-Ok.ensures.added,
  moves c.args.row c.args.column (omega arith) (omega arith),
)
