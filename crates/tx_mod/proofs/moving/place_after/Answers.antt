use Rattle.std.proofs.Common.{subst, sym}
use Rattle.tx_mod.specs.Ways.{AreChildNumbers}
use Rattle.tx_mod.proofs.Small.{leads_small, rest_small, place_leads, place_small}
use Rattle.tx_mod.proofs.moving.place_after.Goals as goal

pub moved_at-stand-requires-clause-small : goal.moved_at-stand-requires-clause-small
moved_at-stand-requires-clause-small c =
    rest_small c.steps.result.now c.steps-2.result.now c.in-Some-rest_behind.rest.now c.in-Some-rest_behind.ensures
    (subst AreChildNumbers (sym c.steps-2.ensures)
    (leads_small c.args.t.now c.args.place.now.path
    (place_leads c.args.t.now c.args.place.now.path c.args.place.now.offset c.requires.valid)
    c.size-size.ensures.within))

pub moved_at-stand-requires-clause-offset : goal.moved_at-stand-requires-clause-offset
moved_at-stand-requires-clause-offset c =
    place_small c.args.t.now c.args.place.now.path c.args.place.now.offset c.requires.valid c.size-size.ensures.within
