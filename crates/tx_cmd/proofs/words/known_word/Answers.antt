use Rattle.tx_cmd.proofs.WordTexts.{known}
use Rattle.tx_cmd.proofs.words.known_word.Goals as goal

pub returns : goal.returns
returns c = known c.args.bytes.now c.find_word.result c.find_word.ensures
