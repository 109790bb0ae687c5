use Rattle.tx_view.specs.Marks.{spot_place}
use Rattle.tx_view.proofs.LinesIn.{place_told}
use Rattle.tx_view.proofs.places.place_in.Goals as goal

pub returns : goal.returns
returns c =
    place_told c.args.shown.now c.args.row c.line_in-k.result c.line_in-k.ensures c.args.path.now c.args.column
    (spot_place c.place_on.result) c.place_on.ensures
