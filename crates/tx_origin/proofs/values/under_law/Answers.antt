use Rattle.tx_origin.proofs.Under.{under_nested, under_none, plain_under}
use Rattle.tx_origin.proofs.values.under_law.Goals as goal

pub returns : goal.returns
returns c = record { nested = under_nested; none = under_none; plain = plain_under }
