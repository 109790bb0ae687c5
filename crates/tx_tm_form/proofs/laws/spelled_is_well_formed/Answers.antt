use Rattle.tx_tm_form.proofs.Formed.{spelled_tree}
use Rattle.tx_tm_form.proofs.laws.spelled_is_well_formed.Goals as goal

pub returns : goal.returns
returns c = spelled_tree
