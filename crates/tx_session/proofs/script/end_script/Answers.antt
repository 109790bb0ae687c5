use Rattle.tx_session.specs.Worlds.{world}
use Rattle.tx_session.proofs.Standing.{turned_cut}
use Rattle.tx_session.proofs.Ending.{whole_end, whole_cut}
use Rattle.tx_session.proofs.script.end_script.Goals as goal

pub returns-in-Ok-clause-end : goal.returns-in-Ok-clause-end
returns-in-Ok-clause-end g c =
    λ start told before script s tells short rest end. whole_end start
    (world c.args.session.now (g.S.Store.seen c.args.store.now) c.args.steps.now)
    (world c.answer_line.new.session (g.S.Store.seen c.answer_line.new.store)
    c.answer_line.new.steps) told rest before (g.O.Sink.seen c.args.out.now).written
    (g.O.Sink.seen c.answer_line.new.out).written script s.rest c.in-Ok.field-0 tells short end s.stands
    (c.in-Ok.ensures.answered s.rest s.kept)

pub returns-in-Err-Failed-clause-end : goal.returns-in-Err-Failed-clause-end
returns-in-Err-Failed-clause-end g c =
    λ start told before script s tells short rest end. whole_cut start
    (world c.args.session.now (g.S.Store.seen c.args.store.now) c.args.steps.now)
    (world c.answer_line.new.session (g.S.Store.seen c.answer_line.new.store) c.answer_line.new.steps) told before
    (g.O.Sink.seen c.args.out.now).written
    (g.O.Sink.seen c.answer_line.new.out).written script s.rest tells short s.stands
    (turned_cut _ _ _ _ s.rest _ _ c.in-Err-Failed.is (c.answer_line.ensures.answered s.rest s.kept))
