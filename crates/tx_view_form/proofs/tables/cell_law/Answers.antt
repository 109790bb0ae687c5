use Rattle.tx_view_form.proofs.TableRows.{item_covers}
use Rattle.tx_view_form.proofs.tables.cell_law.Goals as goal

pub returns : goal.returns
returns c = λ line front back item at. item_covers line front back item at
