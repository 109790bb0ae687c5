use Rattle.std.proofs.Common.{rules, ◌+◌, arith}
use Rattle.tx_doc.proofs.Counting.{item_deep, rest_deep, depth_is, nodes_are, same_still, left_within, without_is}
use Rattle.tx_doc.proofs.Counting.{all_made, at_none}
use Rattle.tx_doc.proofs.older.+calls.Goals as goal

pub add_changed-changed-requires : goal.add_changed-changed-requires
add_changed-changed-requires g t c κs within =
    search (
      rules,
      item_deep c.args.trees.now c.loop-tree.tree-index c.tree-item.result c.loop-tree-test.true c.tree-item.is,
    )

pub all_changed-changed-requires : goal.all_changed-changed-requires
all_changed-changed-requires g t c κs within =
    search (
      rules,
      item_deep c.args.trees.now c.loop-i.i c.index-trees-i.result c.loop-i-test.true c.index-trees-i.is,
    )

pub all_changed-add_changed-requires : goal.all_changed-add_changed-requires
all_changed-add_changed-requires g t c κs within =
    search (rules, rest_deep c.args.trees.now (c.loop-i.i + 1))

pub all_changed-returns-in-Some-clause-made : goal.all_changed-returns-in-Some-clause-made
all_changed-returns-in-Some-clause-made g t c =
    search (
      rules,
      all_made c.args.trees.now c.loop-i.i c.index-trees-i.result c.in-Some.new c.loop-i.invariant.0
          c.loop-i-test.true c.index-trees-i.is,
    )

pub changed-all_changed-requires : goal.changed-all_changed-requires
changed-all_changed-requires g t c κs within =
    search (
      rules,
      c.called.ensures.depth,
      depth_is c.args.t.now c.in-Some.label.now c.children-children.result.now c.in-Some.ensures
          c.children-children.ensures,
    )

pub changed-returns-in_err-all-clause-counted : goal.changed-returns-in_err-all-clause-counted
changed-returns-in_err-all-clause-counted g t c =
    omega (
      arith,
      c.in_err-all.ensures.counted,
      c.called.ensures.nodes,
      nodes_are c.args.t.now c.in-Some.label.now c.children-children.result.now c.in-Some.ensures
          c.children-children.ensures,
    )

pub changed-returns-then-others-children-clause-made : goal.changed-returns-then-others-children-clause-made
changed-returns-then-others-children-clause-made g t c =
    same_still c.args.t.now c.bytes.result.now c.children-children.result.now c.called.result.0.now
    c.called.result.1.now (rw c.bytes.ensures.bytes c.in-Some.ensures) c.children-children.ensures c.called.ensures
    c.if-others-children.true
    (at_none _ _ c.in_ok-all.all c.if-is_none.ensures c.in_ok-all.ensures.made)

pub changed-returns-then-others-children-clause-counted : goal.changed-returns-then-others-children-clause-counted
changed-returns-then-others-children-clause-counted g t c =
    omega (
      arith,
      c.tick.ensures,
      c.in_ok-all.ensures.counted,
      c.called.ensures.nodes,
      nodes_are c.args.t.now c.in-Some.label.now c.children-children.result.now c.in-Some.ensures
          c.children-children.ensures,
    )

pub changed-returns-in_err-label-clause-counted : goal.changed-returns-in_err-label-clause-counted
changed-returns-in_err-label-clause-counted g t c =
    omega (
      arith,
      c.in_ok-all.ensures.counted,
      c.called.ensures.nodes,
      nodes_are c.args.t.now c.in-Some.label.now c.children-children.result.now c.in-Some.ensures
          c.children-children.ensures,
    )

pub changed-node_without-requires-clause-within : goal.changed-node_without-requires-clause-within
changed-node_without-requires-clause-within g t c =
    rw c.in_ok-label.ensures
    (left_within c.args.t.now c.bytes.result.now c.children-children.result.now c.called.result.0.now
    c.called.result.1.now (rw c.bytes.ensures.bytes c.in-Some.ensures) c.children-children.ensures c.called.ensures
    c.depth-depth.ensures.within)

pub changed-returns-in_err-new-clause-counted : goal.changed-returns-in_err-new-clause-counted
changed-returns-in_err-new-clause-counted g t c =
    omega (
      arith,
      c.in_err-new.ensures.counted,
      c.in_ok-all.ensures.counted,
      c.called.ensures.nodes,
      nodes_are c.args.t.now c.in-Some.label.now c.children-children.result.now c.in-Some.ensures
          c.children-children.ensures,
    )

pub changed-returns-clause-made : goal.changed-returns-clause-made
changed-returns-clause-made g t c =
    rw (c.in_ok-new.ensures.made, c.in_ok-label.ensures)
    (without_is c.args.t.now c.bytes.result.now c.children-children.result.now c.called.result.0.now
    c.called.result.1.now (rw c.bytes.ensures.bytes c.in-Some.ensures) c.children-children.ensures c.called.ensures)

pub changed-returns-clause-counted : goal.changed-returns-clause-counted
changed-returns-clause-counted g t c =
    omega (
      arith,
      c.in_ok-new.ensures.counted,
      c.in_ok-all.ensures.counted,
      c.called.ensures.nodes,
      nodes_are c.args.t.now c.in-Some.label.now c.children-children.result.now c.in-Some.ensures
          c.children-children.ensures,
    )
