use Rattle.std.proofs.Common.{◌∙◌, sym, ap}
use Rattle.tx_print.specs.Places.{no_cell}
use Rattle.tx_print.specs.Runs.{runs_or}
use Rattle.tx_print.proofs.Adding.{adds_also}
use Rattle.tx_print.proofs.Deeper.{runs_under}
use Rattle.tx_print.proofs.attributes.push_attributes.Goals as goal

pub returns-in-Some : goal.returns-in-Some
returns-in-Some g c =
    let found = c.in-Some.ensures in
    let none = no_cell c.args.view.now.shown c.args.view.now.width in
    adds_also (sym (ap (runs_or none) found.2 ∙ runs_under found.0 c.in-Some.line.now none)) c.push_runs.ensures
