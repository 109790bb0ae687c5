use Rattle.tx_parts.proofs.Fitting.{parts_by_fit, stored_by, traced_by}
use Rattle.tx_parts.proofs.shell_laws.opened_fitting_law.Goals as goal

pub returns : goal.returns
returns c = record { same_parts = parts_by_fit; same_stored = stored_by; all_traced = traced_by }
