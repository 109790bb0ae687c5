use Rattle.std.proofs.Common.{◌∙◌, sym, ap}
use Rattle.tx_bridge.specs.PartMoves.{is_vacant}
use Rattle.tx_bridge.proofs.Above.{vacant_nowhere, vacant_above_none, vacant_read}
use Rattle.tx_bridge.proofs.course.is_vacant.Goals as goal

pub returns-in_default : goal.returns-in_default
returns-in_default c = vacant_nowhere c.args.units.now ∙ ap (λ o. is_vacant o c.args.units.now) (sym c.in_default.is)

pub returns-in-None : goal.returns-in-None
returns-in-None c =
    vacant_above_none c.args.units.now c.in-Some.place c.in-None.ensures.unit_above
    ∙ ap (λ o. is_vacant o c.args.units.now) (sym c.in-Some.is)

pub returns-in-Some-number_above : goal.returns-in-Some-number_above
returns-in-Some-number_above c =
    vacant_read c.args.units.now c.in-Some.place c.in-Some-number_above.j c.index-units-j.result c.has_path.result
    c.requires.apart c.in-Some-number_above.ensures.unit_above c.in-Some-number_above.ensures.within c.index-units-j.is
    c.has_path.ensures
    ∙ ap (λ o. is_vacant o c.args.units.now) (sym c.in-Some.is)
