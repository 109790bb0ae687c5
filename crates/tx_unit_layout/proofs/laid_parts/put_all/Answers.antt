use Rattle.std.proofs.Common.{◌∙◌, arith}
use Rattle.tx_unit_layout.proofs.Putting.{all_are_put}
use Rattle.tx_unit_layout.proofs.laid_parts.put_all.Goals as goal

pub returns : goal.returns
returns c =
    c.truncate.ensures.items
    ∙ all_are_put c.args.parts.now.items c.loop-i.parts.items c.args.places.items c.loop-i.places.items c.loop-i.i
    c.loop-i.at c.loop-i.k c.loop-i.invariant (omega arith)
