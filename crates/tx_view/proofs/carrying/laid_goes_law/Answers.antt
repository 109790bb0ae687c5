use Rattle.tx_bridge.specs.Entries.{units_of}
use Rattle.tx_view.proofs.LaidAlone.{laid_goes}
use Rattle.tx_view.proofs.carrying.laid_goes_law.Goals as goal

pub returns : goal.returns
returns c =
    laid_goes c.args.changed c.args.mods.now c.args.before.now c.requires.applies.0 c.args.tree.now
    (units_of c.args.bridges.now.kept) c.requires.applies.1 c.requires.units c.requires.changed
    c.in_place_law.ensures.parts c.in_place_law.ensures.strays
