use Rattle.tx_mod.proofs.Composed.{carried_by_one, composes, stops_at, carries_through_all}
use Rattle.tx_mod.proofs.laws.carried_list_law.Goals as goal

pub returns : goal.returns
returns c = record { one = carried_by_one; composed = composes; stops = stops_at; same = carries_through_all }
