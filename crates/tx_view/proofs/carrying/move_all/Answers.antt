use Rattle.std.proofs.Common.{arith}
use Rattle.tx_view.proofs.Moved.{giving_begins, gives_next, giving_ends}
use Rattle.tx_view.proofs.carrying.move_all.Goals as goal

pub loop-j-init : goal.loop-j-init
loop-j-init c = giving_begins c.args.bridges.now.sources c.args.old.now c.args.new.now

pub loop-j-preserved : goal.loop-j-preserved
loop-j-preserved c =
    gives_next c.args.bridges.now.sources c.args.old.now c.loop-j.old c.args.new.now c.loop-j.new c.loop-j.j
    c.source-from.result c.index-new-j.result c.take_from.new.shown c.take_from.new.old c.requires.once
    c.loop-j.invariant (omega arith) c.source-from.ensures c.take_from.ensures.shown c.take_from.ensures.others

pub returns : goal.returns
returns c =
    giving_ends c.args.bridges.now.sources c.args.old.now c.loop-j.old c.args.new.now c.loop-j.new c.loop-j.j
    c.loop-j.invariant (omega arith)
