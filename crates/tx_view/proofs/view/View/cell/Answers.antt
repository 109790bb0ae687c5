use Rattle.std.specs.Prelude.{slice_get}
use Rattle.tx_view_form.specs.Views.{lines_of}
use Rattle.tx_view.proofs.Reading.{drawn_told}
use Rattle.tx_view.proofs.view.View.cell.Goals as goal

pub returns : goal.returns
returns c =
    drawn_told c.drawn_at.result (slice_get (lines_of c.args.self.now.shown.units) c.args.r)
    (slice_get c.args.self.now.row_parts c.args.r) c.in_ok-line.field-0.now c.args.c c.drawn_at.ensures
    c.in_ok-line.ensures
