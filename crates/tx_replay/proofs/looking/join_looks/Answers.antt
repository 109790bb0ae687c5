use Rattle.std.specs.FinMap.{from_entries}
use Rattle.tx_env.specs.Changes.{map_of}
use Rattle.tx_replay.proofs.Joining.{looks_begin, looks_next}
use Rattle.tx_replay.proofs.looking.join_looks.Goals as goal

pub loop-name-init : goal.loop-name-init
loop-name-init c = looks_begin (map_of c.args.own.now) (from_entries c.args.looks.now)

pub loop-name-preserved : goal.loop-name-preserved
loop-name-preserved c =
    looks_next (map_of c.args.own.now) (from_entries c.args.looks.now) (from_entries c.loop-name.looks)
    (from_entries c.join_look.new.looks) c.pairs-name-items.result.now c.loop-name.name-index c.loop-name-item.result
    c.loop-name-test.true c.loop-name-item.is c.loop-name.invariant c.in_ok-join_look.ensures
