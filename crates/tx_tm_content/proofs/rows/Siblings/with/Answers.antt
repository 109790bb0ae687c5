use Rattle.std.proofs.Common.{arith}
use Rattle.tx_tm_content.proofs.Rowing.{too_big}
use Rattle.tx_tm_content.proofs.rows.Siblings.with.Goals as goal

pub returns-then-whole-gt-MOST_SIZE : goal.returns-then-whole-gt-MOST_SIZE
returns-then-whole-gt-MOST_SIZE c =
    rw (← c.self.view_is)
    (too_big c.self.inside.trees.items c.self.inside.size c.args.tree c.self.invariant
    (omega (arith, c.size.ensures.value, c.if-whole-gt-MOST_SIZE.true)))
