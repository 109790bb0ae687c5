use Rattle.tx_units.proofs.Few.{base_count}
use Rattle.tx_units.proofs.Bases.{base_first, all_made}
use Rattle.tx_units.proofs.laws.base_law.Goals as goal

pub returns-clause-count : goal.returns-clause-count
returns-clause-count c = base_count

pub returns-clause-first : goal.returns-clause-first
returns-clause-first c = base_first

pub returns-clause-made : goal.returns-clause-made
returns-clause-made c = all_made
