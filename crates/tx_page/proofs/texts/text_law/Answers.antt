use Rattle.tx_page.proofs.Widths.{text_fits, text_whole}
use Rattle.tx_page.proofs.texts.text_law.Goals as goal

pub returns : goal.returns
returns c = record {
  fits = λ text width ink. text_fits text width ink;
  whole = λ text width ink room. text_whole text width ink room;
}
