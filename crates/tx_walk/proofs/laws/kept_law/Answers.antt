use Rattle.tx_walk.proofs.Kept.{sound_none, none_twice, sound_alone}
use Rattle.tx_walk.proofs.laws.kept_law.Goals as goal

pub returns : goal.returns
returns c = record { nothing = sound_none; distinct = none_twice; alone = sound_alone }
