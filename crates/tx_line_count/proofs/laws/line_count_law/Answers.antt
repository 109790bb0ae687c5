use Rattle.tx_line_count.proofs.Counting.{counted}
use Rattle.tx_line_count.proofs.laws.line_count_law.Goals as goal

pub returns-clause-lines : goal.returns-clause-lines
returns-clause-lines c = λ width height v view.
    (counted c.args.buffers.now width height v c.formed_law.ensures c.unit_count_law.ensures view).lines

pub returns-clause-items : goal.returns-clause-items
returns-clause-items c = λ width height v view.
    (counted c.args.buffers.now width height v c.formed_law.ensures c.unit_count_law.ensures view).items

pub returns-clause-errors : goal.returns-clause-errors
returns-clause-errors c = λ width height v view.
    (counted c.args.buffers.now width height v c.formed_law.ensures c.unit_count_law.ensures view).errors
