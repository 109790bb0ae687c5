use Rattle.tx_units.proofs.Once.{name_next}
use Rattle.tx_units.proofs.documents.names_among.Goals as goal

pub loop-tree-preserved : goal.loop-tree-preserved
loop-tree-preserved c =
    name_next c.args.trees.now c.loop-tree.tree-index c.tree-item.result _ _ c.loop-tree-test.true c.tree-item.is
    c.loop-tree.invariant c.in_ok-add_name.ensures
