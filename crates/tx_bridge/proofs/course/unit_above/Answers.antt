use Rattle.std.proofs.Common.{◌∙◌, sym}
use Rattle.tx_bridge.proofs.Above.{none_above, above_has_path, above_has_rest, above_read}
use Rattle.tx_bridge.proofs.course.unit_above.Goals as goal

pub returns-in_default : goal.returns-in_default
returns-in_default c = sym (none_above c.args.units.now c.args.place c.in_default.ensures.unit_above)

pub returns-in_default-path : goal.returns-in_default-path
returns-in_default-path c =
    absurd (above_has_path c.args.units.now c.args.place c.in-Some.j _ c.in-Some.ensures.unit_above
    c.in-Some.ensures.within c.in_default-path.is)

pub returns-in-None : goal.returns-in-None
returns-in-None c =
    absurd (above_has_rest c.args.units.now c.args.place c.in-Some.j c.index-units-j.result c.in-Some-path.path
    c.in-Some.ensures.unit_above c.in-Some.ensures.within c.in-Some-path.is
    (sym c.in-None.is ∙ c.in_ok-rest_of.ensures))

pub returns-in-Some-2 : goal.returns-in-Some-2
returns-in-Some-2 c =
    above_read c.args.units.now c.args.place c.in-Some.j c.index-units-j.result c.in-Some-path.path
    c.in-Some.ensures.unit_above c.in-Some.ensures.within c.in-Some-path.is c.in-Some-2.rest c.requires.apart
    (sym c.in-Some-2.is ∙ c.in_ok-rest_of.ensures)
