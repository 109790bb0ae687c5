use Rattle.std.proofs.Common.{refl}
use Rattle.tx_keys.proofs.Characters.{text_keys}
use Rattle.tx_keys.proofs.Parts.{cut_anywhere}
use Rattle.tx_keys.proofs.Places.{report_keys, click_keys}
use Rattle.tx_keys.proofs.reading.key_laws.Goals as goal

pub returns-clause-texts : goal.returns-clause-texts
returns-clause-texts c = text_keys

pub returns-clause-reports : goal.returns-clause-reports
returns-clause-reports c = report_keys

pub returns-clause-clicks : goal.returns-clause-clicks
returns-clause-clicks c = click_keys

pub returns-clause-cuts : goal.returns-clause-cuts
returns-clause-cuts c = cut_anywhere
