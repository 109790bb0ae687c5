use Rattle.std.proofs.Common.{[], ◌++◌, take, refl, sym, ap, ◌∙◌, arith}
use Rattle.std.specs.Io.KnownBytes.{prepend_known}
use Rattle.tx_outside.proofs.GoingOn.{sink_goes_on_refl, sink_goes_on_then, source_goes_on_refl, source_goes_on_then}
use Rattle.tx_outside.proofs.GoingOn.{store_goes_on_refl, store_goes_on_then}
use Rattle.tx_outside.proofs.Pieces.{append_known-nil, prepend_known-nil}
use Rattle.tx_session.specs.declared.script.Turn.TheVariants as turns
use Rattle.tx_session.specs.Worlds.{world}
use Rattle.tx_session.proofs.Standing.{stands_first}
use Rattle.tx_session.proofs.Ending.{at_end, nothing_left, failed_end, stopped_in_read, long_read, read_on, room_on}
use Rattle.tx_session.proofs.Ending.{count_on}
use Rattle.tx_session.proofs.script.play.Goals as goal

pub loop-session-init : goal.loop-session-init
loop-session-init g c =
    record {
      taken = (
        [],
        sym (prepend_known-nil _),
        omega arith,
        record {
          rest = [];
          stands =
              stands_first
              (world c.args.session.now (g.S.Store.seen c.args.store.now)
              c.args.steps.now)
              (g.O.Sink.seen c.args.out.now).written (sym (append_known-nil _));
          kept = c.new-line.ensures;
        },
      );
      count = omega (arith, c.new-line.ensures.count);
      store = store_goes_on_refl _;
      piece = refl;
      input = source_goes_on_refl _;
      output = sink_goes_on_refl _;
    }

pub returns-in-Ok-eq0-clause-end : goal.returns-in-Ok-eq0-clause-end
returns-in-Ok-eq0-clause-end g c =
    let t = c.loop-session.invariant.taken in
    c.end_script.ensures.end
    (world c.args.session.now (g.S.Store.seen c.args.store.now) c.args.steps.now)
    (g.I.Source.seen c.args.input.now).left (g.O.Sink.seen c.args.out.now).written t.0 t.3
    (at_end _ _ _ t.0 c.read.new.into _ c.in-Ok-eq0.field-0-test t.1 c.in-Ok-eq0.ensures.taken
    (c.in-Ok-eq0.ensures.zero_at_end c.in-Ok-eq0.field-0-test)) (omega (arith, t.2))
    (g.I.Source.seen c.read.new.self).left
    (nothing_left _ _ c.read.new.into _ c.in-Ok-eq0.ensures.taken
    (c.in-Ok-eq0.ensures.zero_at_end c.in-Ok-eq0.field-0-test))

pub returns-in-Err-clause-end : goal.returns-in-Err-clause-end
returns-in-Err-clause-end g c =
    let t = c.loop-session.invariant.taken in
    failed_end (world c.args.session.now (g.S.Store.seen c.args.store.now)
    c.args.steps.now)
    (world c.loop-session.session (g.S.Store.seen c.loop-session.store)
    c.loop-session.steps)
    (g.I.Source.seen c.args.input.now).left (g.I.Source.seen c.read.new.self).left
    (g.O.Sink.seen c.args.out.now).written _ t.0
    t.3.rest
    (t.1 ∙ ap (prepend_known t.0) (sym c.in-Err.ensures.failed_keeps)) (omega (arith, t.2)) t.3.stands

pub returns-in-Quit-clause-end : goal.returns-in-Quit-clause-end
returns-in-Quit-clause-end g c =
    let t = c.loop-session.invariant.taken in
    stopped_in_read turns.Quit
    (world c.args.session.now (g.S.Store.seen c.args.store.now) c.args.steps.now)
    (world c.take_piece.new.session (g.S.Store.seen c.take_piece.new.store) c.take_piece.new.steps)
    (g.I.Source.seen c.args.input.now).left
    (g.I.Source.seen c.loop-session.input).left (g.I.Source.seen c.read.new.self).left
    (g.O.Sink.seen c.args.out.now).written
    (g.O.Sink.seen c.take_piece.new.out).written
    t.0 c.read.new.into c.min-within.result c.in-Ok.count c.loop-session.room c.take_piece.new.line (λ e. cc) t.1
    c.in-Ok.ensures.taken (omega (arith, c.min-within.ensures)) (omega (arith, c.min-within.ensures)) t.2
    (c.in-Quit.ensures.leads
    (world c.args.session.now (g.S.Store.seen c.args.store.now) c.args.steps.now)
    (g.O.Sink.seen c.args.out.now).written t.0 t.3)

pub returns-in-NoMemory-clause-end : goal.returns-in-NoMemory-clause-end
returns-in-NoMemory-clause-end g c =
    let t = c.loop-session.invariant.taken in
    stopped_in_read turns.NoMemory
    (world c.args.session.now (g.S.Store.seen c.args.store.now) c.args.steps.now)
    (world c.take_piece.new.session (g.S.Store.seen c.take_piece.new.store) c.take_piece.new.steps)
    (g.I.Source.seen c.args.input.now).left
    (g.I.Source.seen c.loop-session.input).left (g.I.Source.seen c.read.new.self).left
    (g.O.Sink.seen c.args.out.now).written
    (g.O.Sink.seen c.take_piece.new.out).written
    t.0 c.read.new.into c.min-within.result c.in-Ok.count c.loop-session.room c.take_piece.new.line (λ e. cc) t.1
    c.in-Ok.ensures.taken (omega (arith, c.min-within.ensures)) (omega (arith, c.min-within.ensures)) t.2
    (c.in-NoMemory.ensures.leads
    (world c.args.session.now (g.S.Store.seen c.args.store.now) c.args.steps.now)
    (g.O.Sink.seen c.args.out.now).written t.0 t.3)

pub returns-in-OutputFailed-clause-end : goal.returns-in-OutputFailed-clause-end
returns-in-OutputFailed-clause-end g c =
    let t = c.loop-session.invariant.taken in
    stopped_in_read turns.OutputFailed
    (world c.args.session.now (g.S.Store.seen c.args.store.now) c.args.steps.now)
    (world c.take_piece.new.session (g.S.Store.seen c.take_piece.new.store) c.take_piece.new.steps)
    (g.I.Source.seen c.args.input.now).left
    (g.I.Source.seen c.loop-session.input).left (g.I.Source.seen c.read.new.self).left
    (g.O.Sink.seen c.args.out.now).written
    (g.O.Sink.seen c.take_piece.new.out).written
    t.0 c.read.new.into c.min-within.result c.in-Ok.count c.loop-session.room c.take_piece.new.line (λ e. cc) t.1
    c.in-Ok.ensures.taken (omega (arith, c.min-within.ensures)) (omega (arith, c.min-within.ensures)) t.2
    (c.in-OutputFailed.ensures.leads
    (world c.args.session.now (g.S.Store.seen c.args.store.now) c.args.steps.now)
    (g.O.Sink.seen c.args.out.now).written t.0 t.3)

pub returns-then-within-count-clause-end : goal.returns-then-within-count-clause-end
returns-then-within-count-clause-end g c =
    let t = c.loop-session.invariant.taken in
    long_read (world c.args.session.now (g.S.Store.seen c.args.store.now)
    c.args.steps.now)
    (world c.take_piece.new.session (g.S.Store.seen c.take_piece.new.store) c.take_piece.new.steps)
    (g.I.Source.seen c.args.input.now).left
    (g.I.Source.seen c.loop-session.input).left (g.I.Source.seen c.read.new.self).left
    (g.O.Sink.seen c.args.out.now).written
    (g.O.Sink.seen c.take_piece.new.out).written
    t.0 c.read.new.into c.min-within.result c.in-Ok.count c.loop-session.room c.take_piece.new.line t.1
    c.in-Ok.ensures.taken c.if-within-count.true (omega (arith, c.min-within.ensures, c.if-within-count.true))
    (omega (arith, c.in-Ok.ensures.within, c.read.auto.into, c.loop-session.invariant.piece)) t.2
    (c.in-Go.ensures.leads
    (world c.args.session.now (g.S.Store.seen c.args.store.now) c.args.steps.now)
    (g.O.Sink.seen c.args.out.now).written t.0 t.3)

pub loop-session-preserved : goal.loop-session-preserved
loop-session-preserved g c =
    let t = c.loop-session.invariant.taken in
    record {
      taken = (
        t.0 ++ take c.min-within.result c.read.new.into,
        read_on _ _ _ t.0 c.read.new.into c.min-within.result c.in-Ok.count c.if-within-count.false
            (omega (arith, c.min-within.ensures)) t.1 c.in-Ok.ensures.taken,
        room_on t.0 c.read.new.into c.min-within.result c.loop-session.room (omega (arith, c.min-within.ensures))
            (omega (
              arith,
              c.min-within.ensures,
              c.in-Ok.ensures.within,
              c.read.auto.into,
              c.loop-session.invariant.piece,
            )) t.2,
        c.in-Go.ensures.leads
            (world c.args.session.now (g.S.Store.seen c.args.store.now)
            c.args.steps.now)
            (g.O.Sink.seen c.args.out.now).written t.0 t.3,
      );
      count = count_on _ c.loop-session.line.count c.loop-session.room c.min-within.result c.read.new.into
          c.take_piece.ensures.count c.loop-session.invariant.count (omega (arith, c.min-within.ensures));
      store = store_goes_on_then _ _ _ c.loop-session.invariant.store c.take_piece.ensures.store_goes_on;
      piece = c.read.auto.into ∙ c.loop-session.invariant.piece;
      input = source_goes_on_then _ _ _ c.loop-session.invariant.input c.read.ensures.goes_on;
      output = sink_goes_on_then _ _ _ c.loop-session.invariant.output c.take_piece.ensures.output_goes_on;
    }
