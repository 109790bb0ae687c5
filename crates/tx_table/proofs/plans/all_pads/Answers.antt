use Rattle.std.proofs.Common.{◌∙◌, arith}
use Rattle.tx_table.specs.Columns.{left_pad, right_pad}
use Rattle.tx_table.proofs.Padding.{rows_end}
use Rattle.tx_table.proofs.plans.all_pads.Goals as goal

pub returns-clause-left : goal.returns-clause-left
returns-clause-left c =
    c.new.ensures
    ∙ rows_end left_pad c.args.columns.now c.args.sides.now c.args.widths.now c.loop-i.left.items c.loop-i.i (omega arith)
    c.loop-i.invariant.left

pub returns-clause-right : goal.returns-clause-right
returns-clause-right c =
    c.new-2.ensures
    ∙ rows_end right_pad c.args.columns.now c.args.sides.now c.args.widths.now c.loop-i.right.items c.loop-i.i
    (omega arith) c.loop-i.invariant.right
