use Rattle.std.proofs.Common.{◌∙◌, ◌++◌, ◌+◌, [], ap, drop, take}
use Rattle.tx_unit_layout.specs.Moving.{put_along}
use Rattle.tx_unit_layout.proofs.Putting.{down_same, gone_same, moved_same}
use Rattle.tx_unit_layout.proofs.laid_parts.put_next.Goals as goal

pub returns-in-None-clause-same : goal.returns-in-None-clause-same
returns-in-None-clause-same c =
    down_same c.args.parts.now c.args.at c.args.i (drop c.args.k c.taken.new.places) [] c.requires.there
    c.move_down.new.parts c.move_down.ensures.front c.move_down.ensures.back c.in-None.ensures.1
    ∙ ap (λ ms. take c.args.at c.args.parts.now
    ++ put_along c.args.i (drop c.args.k ms) (drop c.args.i c.args.parts.now)) c.in-None.ensures.0

pub returns-in-Some-None-clause-same : goal.returns-in-Some-None-clause-same
returns-in-Some-None-clause-same c =
    gone_same c.args.parts.now c.args.at c.args.i (drop c.args.k c.args.places.now)
    (drop (c.args.k + 1) c.taken.new.places) c.requires.there (rw c.in-Some-None.field-0-is at c.in-Some-None.ensures.1)

pub returns-in-Some-Some-clause-same : goal.returns-in-Some-Some-clause-same
returns-in-Some-Some-clause-same c =
    moved_same c.args.parts.now c.args.at c.args.i (drop c.args.k c.args.places.now)
    (drop (c.args.k + 1) c.taken.new.places) c.requires.there c.set_path.new.parts c.move_down-in-Some-Some.new.parts
    c.in-Some-Some.path c.requires.order c.set_path.ensures.put c.move_down-in-Some-Some.ensures.front
    c.move_down-in-Some-Some.ensures.back (rw c.in-Some-Some.field-0-is at c.in-Some-Some.ensures.1)
