use Rattle.tx_tm_write.proofs.Spelling.{text_alone, line_alone}
use Rattle.tx_tm_write.proofs.laws.canonical_laws.Goals as goal

pub returns-clause-text : goal.returns-clause-text
returns-clause-text c = text_alone

pub returns-clause-line : goal.returns-clause-line
returns-clause-line c = line_alone
