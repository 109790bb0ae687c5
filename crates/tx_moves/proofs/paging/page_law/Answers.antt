use Rattle.tx_moves.proofs.Numbering.{on_page, only_page, page_rows}
use Rattle.tx_moves.proofs.paging.page_law.Goals as goal

pub returns-clause-on : goal.returns-clause-on
returns-clause-on c = on_page

pub returns-clause-only : goal.returns-clause-only
returns-clause-only c = only_page

pub returns-clause-rows : goal.returns-clause-rows
returns-clause-rows c = page_rows
