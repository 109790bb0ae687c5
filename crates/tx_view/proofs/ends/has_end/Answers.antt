use Rattle.std.proofs.Common.{◌∙◌, arith}
use Rattle.tx_view.proofs.Finding.{short_sum}
use Rattle.tx_view.proofs.EndsUnder.{end_here}
use Rattle.tx_view.proofs.ends.has_end.Goals as goal

pub overflow_add-start : goal.overflow_add-start
overflow_add-start c =
    omega (
      arith,
      short_sum c.args.item.now c.in-Some.drawn.now c.in-Some-origin.origin.now c.requires c.in-Some.ensures
          c.in-Some-origin.ensures,
    )

pub returns : goal.returns
returns c =
    c.is_origin.ensures
    ∙ end_here c.args.end c.args.steps.now c.args.offset c.args.item.now c.in-Some.drawn.now c.in-Some-origin.origin.now
    c.in-Some.ensures c.in-Some-origin.ensures c.of_end.result c.of_end.ensures c.if-of_end-offset.false
