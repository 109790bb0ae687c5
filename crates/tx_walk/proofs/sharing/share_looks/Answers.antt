use Rattle.tx_walk.proofs.Pairwise.{take_next}
use Rattle.tx_walk.proofs.sharing.share_looks.Goals as goal

pub loop-name-preserved : goal.loop-name-preserved
loop-name-preserved c =
    take_next _ _ _ _ _ _ _ c.loop-name-test.true c.loop-name-item.is c.loop-name.invariant c.in_ok-push.ensures.items
    c.in_ok-copy.ensures c.in_ok-share_tree.ensures
