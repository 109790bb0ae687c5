use Rattle.std.proofs.Common.{inl, inr, refl, arith}
use Rattle.tx_session.specs.Runs.{generated_script, no_files}
use Rattle.tx_session.specs.Worlds.{world}
use Rattle.tx_session.proofs.Alone.{never_rose, served_alone, short_read, short_script}
use Rattle.tx_session.proofs.runs.run_alone.Goals as goal

pub returns-clause-ended : goal.returns-clause-ended
returns-clause-ended g c =
    elim c.run_opened.ensures.ended [
      | inl l ↦ inl l.2
      | inr s ↦ inr (λ old le. served_alone c.args.all old s.0 (world s.1 no_files c.run_opened.new.steps)
          c.run_opened.new.input.rest.now (g.O.Sink.seen c.args.out.now).written
          (g.O.Sink.seen c.run_opened.new.out).written
          (omega (arith, le, s.2)) refl c.run_opened.result
          (λ e. never_rose (c.run_opened.ensures.input_fault_counted e)) s.3)
    ]

pub returns-clause-no_input : goal.returns-clause-no_input
returns-clause-no_input g c = λ e. never_rose (c.run_opened.ensures.input_fault_counted e)

pub returns-clause-not_long : goal.returns-clause-not_long
returns-clause-not_long g c = λ e. short_read (c.run_opened.ensures.script_long e)

pub returns-clause-complete : goal.returns-clause-complete
returns-clause-complete g c =
    λ o. c.run_opened.ensures.complete (generated_script, refl, short_script) never_rose o
