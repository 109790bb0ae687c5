use Rattle.tx_replay.proofs.Told.{both_tell}
use Rattle.tx_replay.proofs.laws.walking_law.Goals as goal

pub returns : goal.returns
returns c = λ g sound k path t e s low. (both_tell g sound k).0 path t e s low
