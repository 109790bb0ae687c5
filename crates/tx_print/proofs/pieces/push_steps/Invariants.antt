use Rattle.std.proofs.Common.{take}
use Rattle.tx_tree.specs.PathSpelling.{numbers_text}
use Rattle.tx_print.specs.Printers.{PrinterAdds}
use Rattle.tx_print.proofs.pieces.push_steps.Given as goal

abbrev pub invariant-loop-number : goal.invariant-loop-number
invariant-loop-number g l =
    PrinterAdds (numbers_text (take l.number-index l.steps)) l.fn.printer (g.O.Sink.seen l.fn.out)
    l.printer (g.O.Sink.seen l.out)
