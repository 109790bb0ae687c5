use Rattle.tx_tm_form.proofs.Weights.{measured}
use Rattle.tx_tm_form.proofs.laws.measures_are_those_of_the_tree.Goals as goal

pub returns : goal.returns
returns c = measured
