use Rattle.std.proofs.Common.{arith}
use Rattle.tx_view.proofs.Finding.{short_sum}
use Rattle.tx_view.proofs.marks.mark_of.Goals as goal

pub overflow_add-result : goal.overflow_add-result
overflow_add-result c =
    omega (
      arith,
      short_sum c.args.item.now c.in-Some.drawn.now c.in-Some-origin.origin.now c.requires c.in-Some.ensures
          c.in-Some-origin.ensures,
    )
