use Rattle.tx_session.proofs.Saved.{saved_alone}
use Rattle.tx_session.proofs.saving.saved_spells_alone.Goals as goal

pub returns : goal.returns
returns c = saved_alone
