use Rattle.std.proofs.Common.{rules}
use Rattle.tx_bridge.proofs.OtherParts.{number_next}
use Rattle.tx_bridge.proofs.in_place.others_of.Goals as goal

pub loop-i-preserved : goal.loop-i-preserved
loop-i-preserved c =
    number_next c.args.mods.now c.args.path.now c.args.parts.now c.loop-i.i c.index-parts-i.result
    c.loop-i.numbers.items c.add_if_other.new.numbers.items (search rules) c.loop-i.invariant (search rules)
