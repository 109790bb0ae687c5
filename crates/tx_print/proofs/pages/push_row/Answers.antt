use Rattle.std.proofs.Common.{◌∙◌, sym, ap}
use Rattle.tx_print.specs.Lines.{line_text}
use Rattle.tx_print.specs.Printers.{element_text}
use Rattle.tx_print.proofs.Adding.{adds_also}
use Rattle.tx_print.proofs.Deeper.{text_under}
use Rattle.tx_print.proofs.pages.push_row.Goals as goal

pub returns-in-Some : goal.returns-in-Some
returns-in-Some g c =
    let found = c.in-Some.ensures in
    adds_also (sym (ap (element_text line_text) found.2 ∙ text_under found.0 c.in-Some.line.now)) c.push_line.ensures
