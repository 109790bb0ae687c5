use Rattle.std.proofs.Common.{◌≡◌, min}
use Rattle.tx_view_form.specs.Views.{lines_of}
use Rattle.tx_screen.specs.Frames.{lines_shown}
use Rattle.tx_screen.proofs.frames.shown_rows.Given as goal

abbrev pub invariant-loop-number : goal.invariant-loop-number
invariant-loop-number l = l.rows.items ≡ lines_shown l.size (lines_of l.view.shown.units) l.from (min l.number l.to)
