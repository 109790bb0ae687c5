use Rattle.std.proofs.Common.{take, ◌++◌}
use Rattle.std.specs.List.{flat_map}
use Rattle.tx_print.specs.Lines.{spaces, printed_item}
use Rattle.tx_print.specs.Printers.{PrinterAdds}
use Rattle.tx_print.proofs.lines.push_line.Given as goal

abbrev pub invariant-loop-item : goal.invariant-loop-item
invariant-loop-item g l =
    PrinterAdds (spaces l.line.indent ++ flat_map printed_item (take l.item-index l.item-items)) l.fn.printer
    (g.O.Sink.seen l.fn.out)
    l.printer (g.O.Sink.seen l.out)
