use Rattle.tx_bridge.proofs.Handed.{gives_none, gives_read}
use Rattle.tx_bridge.proofs.giving.give.Goals as goal

pub returns-in-None : goal.returns-in-None
returns-in-None c = record {
  given = gives_none c.args.place.now c.args.i c.args.old.now c.args.new.now c.in-None.ensures.slot;
}

pub returns-in-Some : goal.returns-in-Some
returns-in-Some c = record {
  given =
      gives_read c.args.place.now c.args.i c.args.old.now c.args.new.now c.in-Some.j c.index-new-j.result
      c.take.new.self c.in-Some.ensures.within c.take.ensures c.in-Some.ensures.slot;
}
