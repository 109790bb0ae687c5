use Rattle.tx_words.proofs.Cutting.{stripped}
use Rattle.tx_words.proofs.generators.behind_gen.Goals as goal

pub returns : goal.returns
returns c = stripped c.args.word.now c.strip_prefix.result c.strip_prefix.ensures.cases
