use Rattle.std.proofs.Common.{take, length, ◌++◌}
use Rattle.std.specs.Prelude.{codes, decimal}
use Rattle.std.specs.List.{flat_map}
use Rattle.tx_view_form.specs.Errors.{errors_of}
use Rattle.tx_print.specs.Lines.{line}
use Rattle.tx_print.specs.Errors.{error_text}
use Rattle.tx_print.specs.Printers.{PrinterAdds}
use Rattle.tx_print.proofs.errors.push_errors.Given as goal

abbrev pub invariant-loop-k : goal.invariant-loop-k
invariant-loop-k g l =
    let errors = errors_of l.view.shown.units in
    PrinterAdds (line (codes "errors " ++ decimal (length errors)) ++ flat_map error_text (take l.k errors))
    l.fn.printer (g.O.Sink.seen l.fn.out) l.printer (g.O.Sink.seen l.out)
