use Rattle.tx_walk.proofs.Elsewhere.{outside_next}
use Rattle.tx_walk.proofs.outside.writes_outside.Goals as goal

pub loop-name-preserved : goal.loop-name-preserved
loop-name-preserved c =
    outside_next c.args.pairs.now c.loop-name.kept.items c.keep_write.new.kept.items c.pairs-name-items.result.now
    c.loop-name.name-index c.loop-name-item.result c.loop-name-test.true c.loop-name-item.is c.loop-name.invariant
    c.in_ok-keep_write.ensures
