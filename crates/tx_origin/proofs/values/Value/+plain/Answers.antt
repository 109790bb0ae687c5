use Rattle.tx_origin.proofs.Parts.{plains_next, nodes_next}
use Rattle.tx_origin.proofs.values.Value.+plain.Goals as goal

pub loop-part-preserved : goal.loop-part-preserved
loop-part-preserved g t c =
    record {
      made = plains_next _ _ _ _ _ _ c.loop-part-test.true c.part-item.is c.loop-part.invariant.made
          c.in_ok-push-in-Node.ensures.items c.in_ok-plain-in-Node.ensures.ok;
      counted = nodes_next _ _ _ _ _ _ c.loop-part-test.true c.part-item.is c.loop-part.invariant.counted
          c.in_ok-plain-in-Node.ensures.counted;
    }
