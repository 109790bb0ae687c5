use Rattle.tx_exec_form.proofs.LabelTest.{label_tested}
use Rattle.tx_exec_form.proofs.laws.label_law.Goals as goal

pub returns : goal.returns
returns c = label_tested
