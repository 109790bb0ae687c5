use Rattle.std.proofs.Common.{rules}
use Rattle.tx_layout.proofs.Marks.{mark_last}
use Rattle.tx_layout.proofs.shapes.add_cut.Goals as goal

pub returns-then-count-gt0 : goal.returns-then-count-gt0
returns-then-count-gt0 c =
    mark_last c.args.own.now.items c.len-count.result c.index_mut.result.now c.args.cut.now (search rules)
    c.if-count-gt0.true c.index_mut.ensures.value c.in-PageEnd.is
