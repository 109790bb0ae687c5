use Rattle.tx_page.proofs.Widths.{line_width, lines_within}
use Rattle.tx_page.proofs.lines.row_law.Goals as goal

pub returns : goal.returns
returns c = record {
  exact = λ line. line_width line;
  within = λ p width lines shape. lines_within width lines (c.within_page.ensures p width lines shape);
}
