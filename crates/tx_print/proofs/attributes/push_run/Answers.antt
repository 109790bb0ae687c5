use Rattle.std.proofs.Common.{ap}
use Rattle.tx_print.specs.Lines.{shown}
use Rattle.tx_print.proofs.Adding.{adds_then, adds_also}
use Rattle.tx_print.proofs.attributes.push_run.Goals as goal

pub returns : goal.returns
returns g c =
    let columns = adds_then c.push_number.ensures (adds_then c.push.ensures c.push_number-2.ensures) in
    let series = adds_then c.push-2.ensures (adds_also (ap shown c.series.ensures) c.push_shown.ensures) in
    let shape = adds_then c.push-3.ensures (adds_also (ap shown c.shape.ensures) c.push_shown-2.ensures) in
    let color = adds_then c.push-4.ensures (adds_also (ap shown c.color.ensures) c.push_shown-3.ensures) in
    adds_then (adds_then (adds_then (adds_then columns series) shape) color) c.push-5.ensures
