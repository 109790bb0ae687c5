use Rattle.tx_tm_content.proofs.Made.{no_bad_byte, no_bad_symbol}
use Rattle.tx_tm_content.proofs.making.make_leaf.Goals as goal

pub unreachable-requires-in-Err-BadByte : goal.unreachable-requires-in-Err-BadByte
unreachable-requires-in-Err-BadByte c =
    let f = rw c.in-Err-BadByte.field-0-is at c.in-Err-BadByte.ensures.refused in let bad = f (λ e. cc) in
    no_bad_byte c.args.bytes.now _ c.requires.text bad.1 bad.2

pub unreachable-requires-in-Err-BadSymbol : goal.unreachable-requires-in-Err-BadSymbol
unreachable-requires-in-Err-BadSymbol c =
    let f = rw c.in-Err-BadSymbol.field-0-is at c.in-Err-BadSymbol.ensures.refused in let bad = f (λ e. cc) in
    no_bad_symbol c.args.bytes.now _ c.requires.text bad.1 bad.2
