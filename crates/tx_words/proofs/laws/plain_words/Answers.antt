use Rattle.tx_words.proofs.Plain.{generated_ask, plain_ask}
use Rattle.tx_words.proofs.laws.plain_words.Goals as goal

pub returns-clause-files : goal.returns-clause-files
returns-clause-files c program file styles plain first fit = plain_ask program file styles plain first fit

pub returns-clause-generated : goal.returns-clause-generated
returns-clause-generated c program word number count g = generated_ask program word number count g
