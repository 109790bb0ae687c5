use Rattle.std.proofs.Common.{sym, ◌∙◌}
use Rattle.tx_print.proofs.Adding.{adds_then, if_err}
use Rattle.tx_print.proofs.printer.Printer.push.Goals as goal

pub returns-then-is_err : goal.returns-then-is_err
returns-then-is_err g c =
    let same = if_err c.try_extend_from_slice.result (sym c.is_err.ensures.value ∙ c.if-is_err.true)
    c.try_extend_from_slice.ensures.err in
    rw same at (adds_then c.flush.ensures.adds c.write.ensures)
