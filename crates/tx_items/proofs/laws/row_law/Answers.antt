use Rattle.tx_items.proofs.Columns.{row_cells, column_stands}
use Rattle.tx_items.proofs.laws.row_law.Goals as goal

pub returns : goal.returns
returns c = record { across = row_cells; places = column_stands }
