use Rattle.std.proofs.Common.{◌∙◌, ◌++◌, ◌+◌, [], ap, drop, take}
use Rattle.tx_bridge.specs.Others.{put_from}
use Rattle.tx_bridge.proofs.Putting.{down_same, gone_same, put_same}
use Rattle.tx_bridge.proofs.replacing.put_next.Goals as goal

pub returns-in-None-clause-same : goal.returns-in-None-clause-same
returns-in-None-clause-same c =
    down_same c.args.parts.now c.args.at c.args.i (drop c.args.k c.taken.new.others) [] c.requires.there
    c.move_down.new.parts c.move_down.ensures.front c.move_down.ensures.back c.in-None.ensures.1
    ∙ ap (λ os. take c.args.at c.args.parts.now
    ++ put_from c.args.i (drop c.args.k os) (drop c.args.i c.args.parts.now)) c.in-None.ensures.0

pub returns-in-Some-None-clause-same : goal.returns-in-Some-None-clause-same
returns-in-Some-None-clause-same c =
    gone_same c.args.parts.now c.args.at c.args.i (drop c.args.k c.args.others.now)
    (drop (c.args.k + 1) c.taken.new.others) c.requires.there (rw c.in-Some-None.field-0-is at c.in-Some-None.ensures.1)

pub returns-in-Some-Some-clause-same : goal.returns-in-Some-Some-clause-same
returns-in-Some-Some-clause-same c =
    put_same c.args.parts.now c.args.at c.args.i (drop c.args.k c.args.others.now)
    (drop (c.args.k + 1) c.taken.new.others) c.requires.there c.put_at.new.parts c.in-Some-Some.part c.requires.order
    c.put_at.ensures (rw c.in-Some-Some.field-0-is at c.in-Some-Some.ensures.1)
