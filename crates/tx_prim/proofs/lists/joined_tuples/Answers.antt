use Rattle.std.proofs.Common.{◌≡◌, ◌+◌, ◌++◌, ◌∙◌, ap, sym, subst, drop}
use Rattle.tx_prim.specs.Operands.{tuple_in, AreShallow}
use Rattle.tx_prim.proofs.Collecting.{Joins, joins_more}
use Rattle.tx_prim.proofs.Within.{shallow_more}
use Rattle.tx_prim.proofs.lists.joined_tuples.Goals as goal

pub loop-operand-preserved : goal.loop-operand-preserved
loop-operand-preserved c =
    let before = c.loop-operand.all.items in
    let children = c.in-Some.children.now in
    let e : c.share_onto.new.into.items ≡ before ++ children = c.in_ok-share_onto-in-Some.ensures in
    let more : Joins tuple_in c.args.operands.now (before ++ children)
    (drop (c.loop-operand.operand-index + 1) c.args.operands.now) =
    joins_more tuple_in c.args.operands.now before c.loop-operand.operand-index c.operand-item.result children
    c.loop-operand-test.true c.operand-item.is c.in-Some.ensures.is c.loop-operand.invariant.0 in (
      subst (λ z. Joins tuple_in c.args.operands.now z (drop (c.loop-operand.operand-index + 1) c.args.operands.now))
          (sym e) more,
      subst AreShallow (sym e) (shallow_more before children c.loop-operand.invariant.1 c.in-Some.ensures.within),
    )
