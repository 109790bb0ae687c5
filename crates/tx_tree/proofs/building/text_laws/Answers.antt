use Rattle.tx_tree.proofs.Scanning.{text_test, text_tested, begins_test, begins_tested}
use Rattle.tx_tree.proofs.building.text_laws.Goals as goal

pub returns-clause-whole : goal.returns-clause-whole
returns-clause-whole c = λ bytes. (text_test bytes, text_tested bytes)

pub returns-clause-front : goal.returns-clause-front
returns-clause-front c = λ bytes. (begins_test bytes, λ h. begins_tested bytes h.0 h.1)
