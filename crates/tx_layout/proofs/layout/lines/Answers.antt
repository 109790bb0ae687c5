use Rattle.std.proofs.lemmas.Result.{IfOk-weaker}
use Rattle.tx_layout.proofs.Widths.{shown_narrow}
use Rattle.tx_layout.proofs.Marks.{laid_out}
use Rattle.tx_layout.proofs.layout.lines.Goals as goal

pub shape-requires-clause-narrow : goal.shape-requires-clause-narrow
shape-requires-clause-narrow g c =
    shown_narrow c.line_frame-frame.result c.least_width.result c.args.paragraph.now.items c.in_ok-shown.shown
    c.all-2.result.now c.line_frame-frame.ensures.widths c.least_width.ensures c.requires.narrow c.in_ok-shown.ensures
    c.all-2.ensures

pub returns-clause-shape : goal.returns-clause-shape
returns-clause-shape g c =
    IfOk-weaker c.share_out.result _ _
    (λ lines made. laid_out c.args.paragraph.now c.args.width c.least_width.result c.line_frame-frame.result
    c.in_ok-shown.shown c.all-2.result.now c.in_ok-rows.rows.items c.deref.result.now lines.items
    c.line_frame-frame.ensures.measures c.least_width.ensures c.in_ok-shown.ensures c.all-2.ensures
    c.in_ok-rows.ensures.lines c.deref.ensures.value made)
    c.share_out.ensures
