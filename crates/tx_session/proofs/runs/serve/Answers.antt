use Rattle.std.proofs.Common.{ap, sym, subst, ◌∙◌}
use Rattle.std.specs.Io.KnownBytes.{append_known}
use Rattle.tx_outside.specs.Counts.{Rose}
use Rattle.tx_outside.specs.Known.{AppendsPart}
use Rattle.tx_outside.proofs.Counting.{then_rose}
use Rattle.tx_outside.proofs.GoingOn.{sink_goes_on_then}
use Rattle.tx_session.specs.Worlds.{world}
use Rattle.tx_session.proofs.Causes.{served, end_played}
use Rattle.tx_session.proofs.runs.serve.Goals as goal

pub returns-in_default : goal.returns-in_default
returns-in_default g c =
    record {
      ended = served (Rose (g.I.Source.seen c.args.input.now).faults (g.I.Source.seen c.play.new.input).faults)
          (world c.args.session.now (g.S.Store.seen c.args.store.now)
          c.args.steps.now)
          (world c.play.new.session (g.S.Store.seen c.play.new.store)
          c.play.new.steps) _ _
          c.play.result c.finish.result (g.O.Sink.seen c.args.out.now).written (g.O.Sink.seen c.play.new.out).written
          (g.O.Sink.seen c.finish.new.out).written c.play.ensures.input_fault_counted
          (end_played c.play.result _ _ _ _ _ _ c.in_default.not-OutputFault c.play.ensures.end)
          (λ n. let d = c.finish.ensures.done n in
          (d.0, d.1 ∙ ap (append_known (g.O.Sink.seen c.play.new.out).written) c.own_line.ensures))
          (λ e. subst (λ part. AppendsPart part (g.O.Sink.seen c.play.new.out).written
          (g.O.Sink.seen c.finish.new.out).written) c.own_line.ensures (c.finish.ensures.cut e));
      input_fault_counted = λ e. c.play.ensures.input_fault_counted (sym (c.finish.ensures.done (λ f. cc)).0 ∙ e);
      output_fault_counted = λ e. then_rose _ _ _ c.play.ensures.output_goes_on.faults (c.finish.ensures.counted e);
      store_goes_on = c.play.ensures.store_goes_on;
      input_goes_on = c.play.ensures.input_goes_on;
      output_goes_on = sink_goes_on_then _ _ _ c.play.ensures.output_goes_on c.finish.ensures.output_goes_on;
    }
