use Rattle.std.proofs.Common.{◌<◌, subst}
use Rattle.tx_session.specs.Executed.{IsExecuted}
use Rattle.tx_session.specs.Worlds.{world}
use Rattle.tx_session.proofs.Turning.{long_turned}
use Rattle.tx_session.proofs.script.answer_line.Goals as goal

pub returns-in-Ok-clause-answered : goal.returns-in-Ok-clause-answered
returns-in-Ok-clause-answered g c = λ bytes k.
    subst (λ line. IsExecuted c.line.result
    (world c.args.session.now (g.S.Store.seen c.args.store.now) c.args.steps.now) line
    (world c.line.new.self (g.S.Store.seen c.line.new.store) c.line.new.steps)
    (g.O.Sink.seen c.args.out.now).written (g.O.Sink.seen c.line.new.out).written)
    (c.in-Ok.ensures.text bytes k) c.line.ensures.executed

pub returns-in-Err-clause-answered : goal.returns-in-Err-clause-answered
returns-in-Err-clause-answered g c = λ bytes k.
    let is = c.in-Err.ensures.text bytes k in
    long_turned c.refuse.result
    (world c.args.session.now (g.S.Store.seen c.args.store.now)
    c.args.steps.now) _
    (g.O.Sink.seen c.args.out.now).written (g.O.Sink.seen c.refuse.new.out).written c.refuse.ensures.goes c.in-Err.count
    (subst (λ n. 1048576 < n) is.0 is.1) is.0 c.refuse.ensures.said
