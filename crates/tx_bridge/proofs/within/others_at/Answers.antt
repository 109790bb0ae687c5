use Rattle.std.proofs.Common.{get_or, rules}
use Rattle.tx_bridge.proofs.OtherParts.{other_next}
use Rattle.tx_bridge.proofs.within.others_at.Goals as goal

pub loop-j-preserved : goal.loop-j-preserved
loop-j-preserved c =
    other_next c.args.path.now c.args.parts.now c.args.numbers.now c.args.places.now c.loop-j.others.items
    c.push.new.self.items c.loop-j.j (get_or c.args.numbers.now c.loop-j.j 0) c.index-places-j.result c.in_ok-part.part
    c.loop-j.invariant (search rules) (search rules) (search rules) (search rules) (search rules) (search rules)
    (search rules)
