use Rattle.tx_terminal.specs.Painting.{rows_bytes}
use Rattle.tx_terminal.proofs.Pages.{paints_rows}
use Rattle.tx_terminal.proofs.painting.paint_rows.Goals as goal

pub returns-in-Ok-clause-painted : goal.returns-in-Ok-clause-painted
returns-in-Ok-clause-painted c = (
  rows_bytes 0 c.args.rows.now,
  c.in-Ok.ensures.added,
  paints_rows c.args.rows.now c.in-Ok.ensures.valid c.requires,
)
