use Rattle.std.proofs.Common.{refl}
use Rattle.tx_bridge.proofs.Marked.{unmark_next, unmark_ends}
use Rattle.tx_bridge.proofs.unit_parts.unmark_all.Goals as goal

pub loop-i-preserved : goal.loop-i-preserved
loop-i-preserved c =
    unmark_next c.args.parts.now c.loop-i.parts c.loop-i.i c.index-parts-i.result _ c.loop-i-test.true
    c.loop-i.invariant refl

pub returns : goal.returns
returns c = unmark_ends c.args.parts.now c.loop-i.parts c.loop-i.i c.loop-i-test.false c.loop-i.invariant
