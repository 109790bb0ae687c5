use Rattle.std.proofs.Common.{◌++◌, min}
use Rattle.std.specs.Prelude.{codes, decimal, slice_range}
use Rattle.std.specs.List.{flat_map}
use Rattle.tx_view_form.specs.Views.{lines_of}
use Rattle.tx_print.specs.Lines.{line, line_text}
use Rattle.tx_print.specs.Printers.{PrinterAdds}
use Rattle.tx_print.proofs.pages.push_page.Given as goal

abbrev pub invariant-loop-r : goal.invariant-loop-r
invariant-loop-r g l =
    let lines = slice_range (lines_of l.view.shown.units) l.fn.page.from (min l.r l.fn.page.to) in
    PrinterAdds (line (codes "page " ++ decimal l.number) ++ flat_map line_text lines) l.fn.printer
    (g.O.Sink.seen l.fn.out)
    l.printer (g.O.Sink.seen l.out)
