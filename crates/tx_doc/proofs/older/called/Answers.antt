use Rattle.tx_doc.proofs.Calling.{on_way_start, on_way_more, ends_at, ends_after_all}
use Rattle.tx_doc.proofs.older.called.Goals as goal

pub loop-i-init : goal.loop-i-init
loop-i-init c = on_way_start c.args.label.now c.args.children.now c.requires

pub returns-in_default : goal.returns-in_default
returns-in_default c =
    ends_at c.args.label.now c.args.children.now c.loop-i.name.now c.loop-i.i c.index-children-i.result
    c.loop-i.invariant c.loop-i-test.true c.index-children-i.is c.in_default.ensures.named

pub loop-i-preserved : goal.loop-i-preserved
loop-i-preserved c =
    on_way_more c.args.label.now c.args.children.now c.loop-i.name.now c.in-Some.macro_name.now c.loop-i.i
    c.index-children-i.result c.loop-i.invariant c.loop-i-test.true c.index-children-i.is
    c.in-Some.ensures.named c.in-Some.ensures.label

pub returns : goal.returns
returns c =
    ends_after_all c.args.label.now c.args.children.now c.loop-i.name.now c.loop-i.i c.loop-i.invariant
    c.loop-i-test.false c.loop-i.auto.i-end
