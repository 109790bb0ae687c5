use Rattle.tx_tm_form.proofs.Words.{one_tree}
use Rattle.tx_tm_form.proofs.laws.bytes_spell_one_tree.Goals as goal

pub returns : goal.returns
returns c = one_tree
