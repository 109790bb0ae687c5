use Rattle.std.proofs.Common.{arith, rules}
use Rattle.tx_bridge.proofs.Aligned.{aligned_more, aligned_all}
use Rattle.tx_bridge.proofs.course.order_of.Goals as goal

pub loop-i-preserved : goal.loop-i-preserved
loop-i-preserved c =
    aligned_more c.likely_order-order.result.first c.likely_order-order.result.depth c.args.units.now c.loop-i.i
    c.loop-i.invariant c.index-units-i.result (omega arith) c.index-units-i.is
    (c.is_in_order.ensures (search rules)) (c.has_depth.ensures (search rules))

pub returns : goal.returns
returns c =
    aligned_all c.likely_order-order.result.first c.likely_order-order.result.depth c.args.units.now c.loop-i.i
    c.loop-i.invariant (omega (arith, c.likely_order-order.ensures)) (omega arith)
