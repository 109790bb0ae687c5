use Rattle.tx_tree.proofs.FrontBytes.{text_goes_on, label_goes_on, path_goes_on}
use Rattle.tx_tree.proofs.fault_laws.front_laws.Goals as goal

pub returns-clause-text : goal.returns-clause-text
returns-clause-text c = text_goes_on

pub returns-clause-label : goal.returns-clause-label
returns-clause-label c = label_goes_on

pub returns-clause-path : goal.returns-clause-path
returns-clause-path c = path_goes_on
