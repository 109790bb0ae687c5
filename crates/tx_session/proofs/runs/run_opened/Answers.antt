use Rattle.std.proofs.Common.{inr, subst}
use Rattle.tx_outside.specs.Counts.{Rose}
use Rattle.tx_session.specs.Playing.{IsServed}
use Rattle.tx_session.specs.Runs.{whole_start}
use Rattle.tx_session.specs.Worlds.{world}
use Rattle.tx_session.proofs.Causes.{served_long, served_complete, served_unread}
use Rattle.tx_session.proofs.Turning.{same_session}
use Rattle.tx_session.proofs.runs.run_opened.Goals as goal

pub returns-in-Ok-clause-ended : goal.returns-in-Ok-clause-ended
returns-in-Ok-clause-ended g c =
    let input = g.I.Source.seen c.args.input.now in
    let read = g.I.Source.seen c.serve-status.new.input in
    let last = world c.serve-status.new.session (g.S.Store.seen c.serve-status.new.store) c.serve-status.new.steps in
    inr (
      c.session_of.new.steps,
      c.serve-status.new.session,
      c.session_of.ensures.counted,
      subst (λ s. IsServed (Rose input.faults read.faults) c.serve-status.result
          (world s (g.S.Store.seen c.args.store.now) c.session_of.new.steps) last input.left read.left
          (g.O.Sink.seen c.args.out.now).written (g.O.Sink.seen c.serve-status.new.out).written)
          (same_session c.in-Ok.session (whole_start c.args.all) c.in-Ok.ensures.session c.in-Ok.ensures.keep)
          c.serve-status.ensures.ended,
    )

pub returns-in-Ok-clause-served : goal.returns-in-Ok-clause-served
returns-in-Ok-clause-served g c =
    let input = g.I.Source.seen c.args.input.now in
    let read = g.I.Source.seen c.serve-status.new.input in
    let start = world c.in-Ok.session (g.S.Store.seen c.args.store.now) c.session_of.new.steps in
    let last = world c.serve-status.new.session (g.S.Store.seen c.serve-status.new.store) c.serve-status.new.steps in
    served_unread (Rose input.faults read.faults) c.serve-status.result start last input.left read.left
    (g.O.Sink.seen c.args.out.now).written (g.O.Sink.seen c.serve-status.new.out).written c.serve-status.ensures.ended

pub returns-in-Ok-clause-script_long : goal.returns-in-Ok-clause-script_long
returns-in-Ok-clause-script_long g c = λ e.
    let input = g.I.Source.seen c.args.input.now in
    let read = g.I.Source.seen c.serve-status.new.input in
    let start = world c.in-Ok.session (g.S.Store.seen c.args.store.now) c.session_of.new.steps in
    let last = world c.serve-status.new.session (g.S.Store.seen c.serve-status.new.store) c.serve-status.new.steps in
    served_long (Rose input.faults read.faults) c.serve-status.result start last input.left read.left
    (g.O.Sink.seen c.args.out.now).written (g.O.Sink.seen c.serve-status.new.out).written c.serve-status.ensures.ended e

pub returns-in-Ok-clause-complete : goal.returns-in-Ok-clause-complete
returns-in-Ok-clause-complete g c = λ can i o.
    let input = g.I.Source.seen c.args.input.now in
    let read = g.I.Source.seen c.serve-status.new.input in
    let start = world c.in-Ok.session (g.S.Store.seen c.args.store.now) c.session_of.new.steps in
    let last = world c.serve-status.new.session (g.S.Store.seen c.serve-status.new.store) c.serve-status.new.steps in
    served_complete (Rose input.faults read.faults) c.serve-status.result start last input.left read.left
    (g.O.Sink.seen c.args.out.now).written (g.O.Sink.seen c.serve-status.new.out).written can.0
    c.serve-status.ensures.ended can.1 can.2 (λ e. i (c.serve-status.ensures.input_fault_counted e))
    (λ e. o (c.serve-status.ensures.output_fault_counted e))
