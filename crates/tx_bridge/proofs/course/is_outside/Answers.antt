use Rattle.std.proofs.Common.{sym}
use Rattle.tx_bridge.proofs.Above.{outside_is, inside_told}
use Rattle.tx_bridge.proofs.course.is_outside.Goals as goal

pub returns-in-None : goal.returns-in-None
returns-in-None c = sym (outside_is c.args.units.now c.args.place.now c.in-None.ensures.unit_above)

pub returns-in-Some : goal.returns-in-Some
returns-in-Some c =
    sym (inside_told c.args.units.now c.args.place.now c.number_above.result _ c.number_above.ensures.unit_above
    c.in-Some.is)
