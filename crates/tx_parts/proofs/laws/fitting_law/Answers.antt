use Rattle.tx_parts.proofs.Fitting.{parts_fit, same_stored, all_traced}
use Rattle.tx_parts.proofs.laws.fitting_law.Goals as goal

pub returns : goal.returns
returns c = record { same_parts = parts_fit; same_stored = same_stored; all_traced = all_traced }
