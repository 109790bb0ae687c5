use Rattle.tx_view.proofs.Fitting.{unit_drawable}
use Rattle.tx_view.proofs.moves.line_of.Goals as goal

pub line_in-requires-clause-drawable : goal.line_in-requires-clause-drawable
line_in-requires-clause-drawable c =
    unit_drawable c.args.units.now c.args.firsts.now c.in-Some.unit c.index-units-unit.result c.requires
    c.in-Some.ensures.0 c.index-units-unit.is
