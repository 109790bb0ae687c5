use Rattle.std.proofs.Common.{◌≡◌, ◌+◌, ◌++◌, ◌∙◌, ap, sym, subst, drop}
use Rattle.tx_tree.specs.Texts.{IsText}
use Rattle.tx_tree.specs.WideTree.{text_of}
use Rattle.tx_prim.proofs.Collecting.{Joins, joins_more}
use Rattle.tx_prim.proofs.ItemRuns.{one_text}
use Rattle.tx_prim.proofs.lists.joined_texts.Goals as goal

pub loop-operand-preserved : goal.loop-operand-preserved
loop-operand-preserved c =
    let before = c.loop-operand.all.items in
    let text = c.in-Some.text.now in
    let e : c.extend_from_slice.new.self.items ≡ before ++ text = c.in_ok-extend_from_slice-in-Some.ensures.items
    ∙ ap (λ x. before ++ x) c.bytes.ensures.bytes in
    let more : Joins text_of c.args.operands.now (before ++ text)
    (drop (c.loop-operand.operand-index + 1) c.args.operands.now) =
    joins_more text_of c.args.operands.now before c.loop-operand.operand-index c.operand-item.result text
    c.loop-operand-test.true c.operand-item.is c.in-Some.ensures c.loop-operand.invariant.0 in (
      subst (λ z. Joins text_of c.args.operands.now z (drop (c.loop-operand.operand-index + 1) c.args.operands.now))
          (sym e) more,
      subst IsText (sym e) (one_text before text c.loop-operand.invariant.1 c.bytes.ensures.text),
    )
