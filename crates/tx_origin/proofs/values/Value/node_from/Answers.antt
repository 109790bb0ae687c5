use Rattle.std.proofs.Common.{length-take, arith}
use Rattle.std.proofs.lemmas.List.{take_all}
use Rattle.std.proofs.lemmas.Grind.{common_steps}
use Rattle.tx_origin.proofs.Parts.{counted_next, node_kept, nodes_le_size}
use Rattle.tx_origin.specs.Values.{plain}
use Rattle.tx_origin.proofs.values.Value.node_from.Goals as goal

pub loop-part-preserved : goal.loop-part-preserved
loop-part-preserved c =
    counted_next _ _ _ _ _ _ _ _ _ c.loop-part.invariant c.size.ensures.well_formed c.size.ensures.within
    c.loop-part-test.true c.part-item.is
    (grind (arith, common_steps)) (grind (arith, common_steps)) (grind (arith, common_steps))

pub overflow_add-size : goal.overflow_add-size
overflow_add-size c =
    omega (
      arith,
      c.loop-part.invariant.small,
      c.size.ensures.within.size,
      c.size.ensures.value,
      c.requires.arity,
      c.loop-part-test.true,
      length-take c.loop-part.part-index c.deref-part-items.result.now,
    )

pub overflow_add-nodes : goal.overflow_add-nodes
overflow_add-nodes c =
    omega (
      arith,
      c.loop-part.invariant.small,
      c.loop-part.invariant.few,
      c.size.ensures.within.size,
      c.size.ensures.value,
      c.nodes.ensures.value,
      nodes_le_size (plain c.part-item.result),
      c.requires.arity,
      c.loop-part-test.true,
      length-take c.loop-part.part-index c.deref-part-items.result.now,
    )

pub invariant_of-result : goal.invariant_of-result
invariant_of-result c =
    let whole = rw (take_all _ _ c.loop-part-test.false, c.deref-part-items.ensures.value) at c.loop-part.invariant in
    let kept =
    node_kept _ _ _ c.args.label c.args.parts.items whole c.bytes-bytes.ensures.label c.requires.arity
    c.requires.depth c.requires.size in
    rw c.in_ok-new.ensures.ok
    (record {
      size = whole.sized;
      depth = omega (arith, whole.deep);
      nodes = whole.noded;
      well_formed = kept.0;
      within = kept.1;
      taken = c.requires.from;
    })
