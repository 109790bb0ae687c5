use Rattle.tx_session.specs.Worlds.{seen_world}
use Rattle.tx_session.proofs.Plainly.{no_store}
use Rattle.tx_session.proofs.Refreshed.{most_taken}
use Rattle.tx_session.proofs.session.Session.step.Goals as goal

pub returns-clause-no_store_counted : goal.returns-clause-no_store_counted
returns-clause-no_store_counted g c =
    let r = c.answer-next.ensures.replied in
    no_store (seen_world c.args.self.now.seen (g.S.Store.seen c.args.store.now))
    (seen_world c.answer-next.new.self.seen (g.S.Store.seen c.answer-next.new.store))
    c.args.command.now r.0 r.1 c.answer-next.result (g.O.Sink.seen c.args.out.now).written
    (g.O.Sink.seen c.answer-next.new.out).written r.2 r.3

pub returns-clause-counted : goal.returns-clause-counted
returns-clause-counted g c = λ e.
    let r = c.answer-next.ensures.replied in
    most_taken c.args.command.now c.args.self.now r.0 _ _ r.5 e
