use Rattle.std.proofs.Common.{arith}
use Rattle.tx_terminal.specs.Painting.{row_bytes}
use Rattle.tx_terminal.proofs.Rows.{paints}
use Rattle.tx_terminal.proofs.painting.paint_row.Goals as goal

pub returns-in-Ok-clause-painted : goal.returns-in-Ok-clause-painted
returns-in-Ok-clause-painted c = (
  row_bytes c.args.at c.args.row.now,
  c.in-Ok.ensures.added,
  paints c.args.at c.args.row.now c.in-Ok.ensures.valid (omega arith),
)
