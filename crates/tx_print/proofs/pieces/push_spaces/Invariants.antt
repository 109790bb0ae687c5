use Rattle.tx_print.specs.Lines.{spaces}
use Rattle.tx_print.specs.Printers.{PrinterAdds}
use Rattle.tx_print.proofs.pieces.push_spaces.Given as goal

abbrev pub invariant-loop : goal.invariant-loop
invariant-loop g l =
    PrinterAdds (spaces l.counter) l.fn.printer (g.O.Sink.seen l.fn.out)
    l.printer (g.O.Sink.seen l.out)
