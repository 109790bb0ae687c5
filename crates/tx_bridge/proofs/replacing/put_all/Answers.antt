use Rattle.std.proofs.Common.{◌∙◌, arith}
use Rattle.tx_bridge.proofs.Putting.{all_are_put}
use Rattle.tx_bridge.proofs.replacing.put_all.Goals as goal

pub returns : goal.returns
returns c =
    c.truncate.ensures.items
    ∙ all_are_put c.args.parts.now.items c.loop-i.parts.items c.args.others.items c.loop-i.others.items c.loop-i.i
    c.loop-i.at c.loop-i.k c.loop-i.invariant (omega arith)
