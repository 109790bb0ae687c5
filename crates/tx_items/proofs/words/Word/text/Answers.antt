use Rattle.tx_items.proofs.Wording.{word_text, word_short}
use Rattle.tx_items.proofs.words.Word.text.Goals as goal

pub known_text-requires-clause-text : goal.known_text-requires-clause-text
known_text-requires-clause-text c = rw c.bytes.ensures (word_text c.args.self)

pub known_text-requires-clause-short : goal.known_text-requires-clause-short
known_text-requires-clause-short c = rw c.bytes.ensures (word_short c.args.self)
