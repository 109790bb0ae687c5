use Rattle.std.proofs.Common.{arith}
use Rattle.tx_bridge.proofs.Slotting.{order_more, order_all}
use Rattle.tx_bridge.proofs.giving.order_of.Goals as goal

pub loop-i-preserved : goal.loop-i-preserved
loop-i-preserved c =
    order_more c.first_body-first.result c.args.new.now c.loop-i.i c.index-new-i.result c.loop-i.invariant (omega arith)
    (c.is_in_order.ensures c.if-not-is_in_order.false)

pub returns : goal.returns
returns c = record {
  small = omega (arith, c.first_body-first.ensures);
  order = order_all c.first_body-first.result c.args.new.now c.loop-i.i c.loop-i.invariant (omega arith);
}
