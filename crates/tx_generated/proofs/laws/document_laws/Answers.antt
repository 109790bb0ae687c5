use Rattle.tx_generated.proofs.Documents.{canonical, spelled, well_formed, within}
use Rattle.tx_generated.proofs.laws.document_laws.Goals as goal

pub returns-clause-canonical : goal.returns-clause-canonical
returns-clause-canonical c = canonical

pub returns-clause-spelled : goal.returns-clause-spelled
returns-clause-spelled c = spelled c.canonical_laws.ensures.text c.text_laws.ensures.whole

pub returns-clause-formed : goal.returns-clause-formed
returns-clause-formed c = well_formed c.text_laws.ensures.whole

pub returns-clause-within : goal.returns-clause-within
returns-clause-within c = within
