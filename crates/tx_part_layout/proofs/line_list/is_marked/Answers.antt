use Rattle.std.proofs.Common.{All, arith, subst, take_all}
use Rattle.std.proofs.lemmas.List.Elements.{All-more}
use Rattle.tx_layout.specs.Paging.{Unmarked}
use Rattle.tx_part_layout.proofs.line_list.is_marked.Goals as goal

pub loop-line-preserved : goal.loop-line-preserved
loop-line-preserved c =
    All-more Unmarked c.args.lines.now c.loop-line.line-index c.line-item.result c.loop-line-test.true
    c.loop-line.invariant (subst Unmarked c.line-item.is c.if-line.false)

pub returns : goal.returns
returns c = λ _.
    subst (All Unmarked)
    (take_all c.loop-line.line-index c.args.lines.now (omega (arith, c.loop-line-test.false))) c.loop-line.invariant
