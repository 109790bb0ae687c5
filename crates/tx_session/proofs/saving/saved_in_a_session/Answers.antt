use Rattle.tx_session.proofs.InASession.{stands_among, saves_alone}
use Rattle.tx_session.proofs.saving.saved_in_a_session.Goals as goal

pub returns : goal.returns
returns c = record { among = stands_among; saved = saves_alone }
