use Rattle.tx_edit.proofs.Backwards.{symbol_ends, end_again, byte_ends}
use Rattle.tx_edit.proofs.keys.cut_before.Goals as goal

pub symbol_start-requires-clause-symbol : goal.symbol_start-requires-clause-symbol
symbol_start-requires-clause-symbol c =
    symbol_ends c.args.text.now c.args.end c.bytes.ensures.text c.requires.cut c.requires.behind
    (rw c.bytes.ensures.bytes at c.if-bytes-last-eq62.true)

pub symbol_start-requires-clause-end : goal.symbol_start-requires-clause-end
symbol_start-requires-clause-end c = end_again c.args.text.now c.args.end c.requires.cut c.requires.behind

pub returns-else-bytes-last-eq62-clause-value : goal.returns-else-bytes-last-eq62-clause-value
returns-else-bytes-last-eq62-clause-value c =
    byte_ends c.args.text.now c.args.end c.bytes.ensures.text c.requires.cut c.requires.behind
    (rw c.bytes.ensures.bytes at c.if-bytes-last-eq62.false)
