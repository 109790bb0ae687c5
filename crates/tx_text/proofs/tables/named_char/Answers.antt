use Rattle.tx_text.specs.Tables.{named_code}
use Rattle.tx_text.proofs.tables.named_char.Goals as goal

pub returns : goal.returns
unfolding named_code
returns c = c.char_among.ensures
