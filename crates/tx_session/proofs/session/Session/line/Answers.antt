use Rattle.std.proofs.Common.{◌<◌, ◌≤◌, Err, length, ap, refl, ◌∙◌, arith}
use Rattle.tx_session.specs.Worlds.{world}
use Rattle.tx_session.proofs.Turning.{long_turned, refused_turned, empty_turned, stepped_turned, some_line, no_line}
use Rattle.tx_session.proofs.Turning.{counted_on, nothing_written}
use Rattle.tx_session.proofs.session.Session.line.Goals as goal

pub returns-then-text-gt-MOST_LINE-clause-executed : goal.returns-then-text-gt-MOST_LINE-clause-executed
returns-then-text-gt-MOST_LINE-clause-executed g c =
    let long : 1048576 < length c.args.text.now = omega arith in
    long_turned c.refuse.result (world c.args.self.now (g.S.Store.seen c.args.store.now) c.args.steps.now)
    c.args.text.now (g.O.Sink.seen c.args.out.now).written (g.O.Sink.seen c.refuse.new.out).written
    c.refuse.ensures.goes (length c.args.text.now) long refl c.refuse.ensures.said

pub returns-then-is_empty-clause-executed : goal.returns-then-is_empty-clause-executed
returns-then-is_empty-clause-executed g c =
    empty_turned (world c.args.self.now (g.S.Store.seen c.args.store.now) c.args.steps.now) c.args.text.now _ _
    (no_line _ _ c.is_empty.ensures c.if-is_empty.true) (nothing_written _)

pub returns-in-Ok-clause-executed : goal.returns-in-Ok-clause-executed
returns-in-Ok-clause-executed g c =
    let short : length c.args.text.now ≤ 1048576 = omega arith in
    let r = c.step.ensures.replied in
    stepped_turned (world c.args.self.now (g.S.Store.seen c.args.store.now) c.args.steps.now)
    (world c.step.new.self (g.S.Store.seen c.step.new.store) c.step.new.steps) c.parse.new.steps c.args.text.now
    c.in-Ok.command _ _ (some_line _ _ c.is_empty.ensures c.if-is_empty.false, short) c.in-Ok.ensures.ok
    (c.parse.ensures.rises, c.in-Ok.ensures.counted) c.step.result c.step.ensures.quits.0 c.step.ensures.quits.1
    (λ q. ap (λ out. (g.O.Sink.seen out).written) (c.step.ensures.quit_writes_nothing q))
    c.step.ensures.quit_takes_nothing r

pub returns-in-Err-clause-executed : goal.returns-in-Err-clause-executed
returns-in-Err-clause-executed g c =
    let short : length c.args.text.now ≤ 1048576 = omega arith in
    let seen = world c.args.self.now (g.S.Store.seen c.args.store.now) c.args.steps.now in
    refused_turned c.refuse-in-Err.result seen c.args.text.now (g.O.Sink.seen c.args.out.now).written
    (g.O.Sink.seen c.refuse-in-Err.new.out).written c.refuse-in-Err.ensures.goes
    (record seen { steps = c.parse.new.steps }) c.in-Err.fault (counted_on seen c.parse.new.steps c.parse.ensures.rises)
    (some_line _ _ c.is_empty.ensures c.if-is_empty.false, short) c.in-Err.ensures.refused
    (λ m. c.parse.ensures.memory (c.in-Err.is ∙ ap Err m)) c.refuse-in-Err.ensures.said
