use Rattle.tx_words.proofs.Cutting.{parts_none, parts_some}
use Rattle.tx_words.proofs.generators.parts.Goals as goal

pub returns-clause-some : goal.returns-clause-some
returns-clause-some c = parts_some c.args.rest.now c.split_once.result c.split_once.ensures.cases

pub returns-clause-none : goal.returns-clause-none
returns-clause-none c = parts_none c.args.rest.now c.split_once.result c.split_once.ensures.cases
