use Rattle.tx_cmd.proofs.Splits.{cut_at}
use Rattle.tx_cmd.proofs.pieces.cut.Goals as goal

pub returns-in_default : goal.returns-in_default
returns-in_default c =
    cut_at c.args.argument c.args.bytes.now c.first_word-piece.result.now c.in_default.not-Tree c.in_default.not-Text
    c.requires.some c.requires.tail c.first_word-piece.ensures
