use Rattle.std.proofs.Common.{arith}
use Rattle.std.proofs.lemmas.Result.{on_ok_weaker}
use Rattle.tx_bridge.specs.PartMoves.{seen_move}
use Rattle.tx_unit_layout.specs.Moving.{put_at}
use Rattle.tx_view.specs.Laid.{placed_in}
use Rattle.tx_view.proofs.Adding.{still_arrived, no_part, not_there, unit_more, stray_more}
use Rattle.tx_view.proofs.arriving.put_one.Goals as goal

pub returns-in_default : goal.returns-in_default
returns-in_default c us moves h =
    still_arrived (placed_in c.args.old.now c.args.strays.now) moves (seen_move c.args.m.now) us c.args.new.now
    c.args.new_strays.now
    (λ j l. no_part (placed_in c.args.old.now c.args.strays.now) j (seen_move c.args.m.now) c.in_default.ensures) h

pub returns-then-m-new : goal.returns-then-m-new
returns-then-m-new c =
    on_ok_weaker c.put_in.result
    (λ more us moves h.
    unit_more (placed_in c.args.old.now c.args.strays.now) c.args.m.now.to moves (seen_move c.args.m.now)
    (put_at c.args.m.now.part.path c.in-Some.part.now) us c.args.new.now c.index-new-m.result c.put_in.new.shown
    c.args.new_strays.now (omega arith) c.if-m-new.true c.in-Some.ensures more h) c.put_in.ensures

pub returns-then-m-new-2 : goal.returns-then-m-new-2
returns-then-m-new-2 c =
    on_ok_weaker c.add.result
    (λ more us moves h.
    stray_more (placed_in c.args.old.now c.args.strays.now) moves (seen_move c.args.m.now)
    (put_at c.args.m.now.part.path c.in-Some.part.now) us c.args.new.now c.args.new_strays.now c.add.new.self
    (omega arith) c.in-Some.ensures more h) c.add.ensures.added

pub returns : goal.returns
returns c us moves h =
    still_arrived (placed_in c.args.old.now c.args.strays.now) moves (seen_move c.args.m.now) us c.args.new.now
    c.args.new_strays.now
    (λ j l. not_there (placed_in c.args.old.now c.args.strays.now) j (seen_move c.args.m.now)
    (λ e. omega (arith, e, l, c.if-m-new.false, c.if-m-new-2.false))) h
