use Rattle.tx_replay.proofs.Returned.{returned_sound, nothing_sound}
use Rattle.tx_replay.proofs.laws.returned_law.Goals as goal

pub returns : goal.returns
returns c = record { sound = returned_sound; nothing = nothing_sound }
