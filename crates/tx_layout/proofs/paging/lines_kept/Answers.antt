use Rattle.tx_layout.proofs.Paged.{all_lines}
use Rattle.tx_layout.proofs.paging.lines_kept.Goals as goal

pub returns : goal.returns
returns c = λ lines height pages. all_lines lines height pages
