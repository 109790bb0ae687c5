use Rattle.tx_units.proofs.Few.{few_units}
use Rattle.tx_units.proofs.laws.unit_count_law.Goals as goal

pub returns : goal.returns
returns c = few_units c.args.buffers.now c.formed_law.ensures c.requires.few
