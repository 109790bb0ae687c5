use Rattle.std.proofs.Common.{take}
use Rattle.tx_tree.specs.PathSpelling.{numbers_text}
use Rattle.tx_print.specs.Printers.{PrinterAdds}
use Rattle.tx_print.proofs.places.push_origin.Given as goal

abbrev pub invariant-loop-i : goal.invariant-loop-i
invariant-loop-i g l =
    PrinterAdds (numbers_text (take l.i l.origin)) l.fn.printer (g.O.Sink.seen l.fn.out)
    l.printer (g.O.Sink.seen l.out)
