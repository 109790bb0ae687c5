use Rattle.std.proofs.Common.{drop, ◌+◌}
use Rattle.tx_view_form.specs.Views.{lines_of}
use Rattle.tx_print.specs.Pages.{pages_text, show_text}
use Rattle.tx_print.proofs.Wording.{Leaves}
use Rattle.tx_print.proofs.pages.push_pages.Given as goal

abbrev pub invariant-loop-i : goal.invariant-loop-i
invariant-loop-i g l =
    Leaves (pages_text (lines_of l.view.shown.units) (l.i + 1) (drop l.i l.view.shown.pages)) (show_text l.view.shown)
    l.fn.printer (g.O.Sink.seen l.fn.out)
    l.printer (g.O.Sink.seen l.out)
