use Rattle.tx_commute.proofs.OnePast.{ok_cost}
use Rattle.tx_commute.proofs.known.known_of.Goals as goal

pub returns-in_err-does-clause-short : goal.returns-in_err-does-clause-short
returns-in_err-does-clause-short g c = ok_cost c.args.m.now c.args.t.now c.requires c.size-size.ensures.within

pub returns-in-Ok-clause-short : goal.returns-in-Ok-clause-short
returns-in-Ok-clause-short g c = ok_cost c.args.m.now c.args.t.now c.requires c.size-size.ensures.within

pub returns-in-Err-Memory-clause-short : goal.returns-in-Err-Memory-clause-short
returns-in-Err-Memory-clause-short g c = ok_cost c.args.m.now c.args.t.now c.requires c.size-size.ensures.within
