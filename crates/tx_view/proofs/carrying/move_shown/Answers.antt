use Rattle.std.proofs.Common.{if◌then◌else◌}
use Rattle.tx_view.proofs.Leaving.{former_told}
use Rattle.tx_view.proofs.carrying.move_shown.Goals as goal

pub returns-in-InPlace-clause-former : goal.returns-in-InPlace-clause-former
returns-in-InPlace-clause-former c =
    former_told c.args.target c.args.fresh c.in-InPlace.silent
    (if c.args.fresh then c.args.shown.now.items else c.args.hidden.now.items) c.in-InPlace.unit c.in-InPlace.places
    c.move_in_place-former.result c.former_of.result c.in-InPlace.is c.move_in_place-former.ensures.former
    c.former_of.ensures
