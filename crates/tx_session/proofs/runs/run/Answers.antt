use Rattle.std.proofs.Common.{inl, inr, map, Global, refl, ap, arith}
use Rattle.std.specs.String.{string_bytes}
use Rattle.tx_outside.proofs.GoingOn.{source_goes_on_refl, store_goes_on_then}
use Rattle.tx_words.specs.declared.asked.Source.TheVariants.{Files as AllFiles, Generated as FromNumber}
use Rattle.tx_open.specs.Openings.{open_outcome}
use Rattle.tx_open.specs.Outcomes.{faulty_words}
use Rattle.tx_open.proofs.Loads.{caused_by_loads}
use Rattle.tx_session.specs.Worlds.{KeepsFiles}
use Rattle.tx_session.proofs.Causes.{line_run, opens_not, unopened_causes, unopened_run, whole_run}
use Rattle.tx_session.proofs.Alone.{generated_run}
use Rattle.tx_session.proofs.EarlyEnds.{opened_nothing}
use Rattle.tx_session.proofs.runs.run.Goals as goal

pub returns-in-Opened-clause-run : goal.returns-in-Opened-clause-run
returns-in-Opened-clause-run g c =
    whole_run (map (string_bytes {Z = Global}) c.args.words.now) (g.S.Store.seen c.args.store.now)
    (g.S.Store.seen c.open-opening.new.store) (g.S.Store.seen c.run_opened.new.store) c.args.steps.now
    c.open-opening.new.steps c.run_opened.new.steps (g.I.Source.seen c.args.input.now)
    (g.I.Source.seen c.run_opened.new.input) c.in-Opened.all c.run_opened.result (g.O.Sink.seen c.args.out.now)
    (g.O.Sink.seen c.run_opened.new.out) (c.open-opening.ensures.files_kept, c.open-opening.ensures.store_goes_on)
    c.in-Opened.ensures.counted c.in-Opened.ensures.comes
    (elim c.run_opened.ensures.ended [
      | inl l ↦ inl (ap g.S.Store.seen l.0, ap g.I.Source.seen l.1, l.2)
      | inr s ↦ inr s
    ])

pub returns-in-Opened-clause-words : goal.returns-in-Opened-clause-words
returns-in-Opened-clause-words g c = λ e. absurd (opens_not c.run_opened.result _ c.run_opened.ensures.served e tt)

pub returns-in-Opened-clause-words_only : goal.returns-in-Opened-clause-words_only
returns-in-Opened-clause-words_only g c =
    λ faulty. absurd (let opens = c.in-Opened.ensures.comes in
    faulty c.in-Opened.all.width c.in-Opened.all.height (AllFiles opens.names) opens.asked)

pub returns-in-Opened-clause-missing_counted : goal.returns-in-Opened-clause-missing_counted
returns-in-Opened-clause-missing_counted g c =
    λ e. absurd (opens_not c.run_opened.result _ c.run_opened.ensures.served e tt)

pub returns-in-Opened-clause-loads : goal.returns-in-Opened-clause-loads
returns-in-Opened-clause-loads g c = λ ends. absurd (c.run_opened.ensures.served ends)

pub returns-in-Opened-clause-refused : goal.returns-in-Opened-clause-refused
returns-in-Opened-clause-refused g c = λ e. absurd (opens_not c.run_opened.result _ c.run_opened.ensures.served e tt)

pub returns-in-Opened-clause-store_fault_counted : goal.returns-in-Opened-clause-store_fault_counted
returns-in-Opened-clause-store_fault_counted g c =
    λ e. absurd (opens_not c.run_opened.result _ c.run_opened.ensures.served e tt)

pub returns-in-Opened-clause-complete : goal.returns-in-Opened-clause-complete
returns-in-Opened-clause-complete g c = λ can read fine i o. c.run_opened.ensures.complete read i o

pub returns-in-Opened-clause-words_touch_nothing : goal.returns-in-Opened-clause-words_touch_nothing
returns-in-Opened-clause-words_touch_nothing g c =
    λ faulty. absurd (let opens = c.in-Opened.ensures.comes in
    faulty c.in-Opened.all.width c.in-Opened.all.height (AllFiles opens.names) opens.asked)

pub returns-in-Opened-clause-unread : goal.returns-in-Opened-clause-unread
returns-in-Opened-clause-unread g c = λ e. absurd (c.run_opened.ensures.served e)

pub returns-in-Opened-clause-unread_unless_opened : goal.returns-in-Opened-clause-unread_unless_opened
returns-in-Opened-clause-unread_unless_opened g c = inr (c.in-Opened.all, c.in-Opened.ensures.comes)

pub returns-in-Opened-clause-store_goes_on : goal.returns-in-Opened-clause-store_goes_on
returns-in-Opened-clause-store_goes_on g c =
    store_goes_on_then _ _ _ c.open-opening.ensures.store_goes_on c.run_opened.ensures.store_goes_on

pub returns-in-Opened-clause-untouched_unless_asked : goal.returns-in-Opened-clause-untouched_unless_asked
returns-in-Opened-clause-untouched_unless_asked g c =
    let opens = c.in-Opened.ensures.comes in
    inr (c.in-Opened.all.width, c.in-Opened.all.height, opens.names, opens.asked)

pub returns-in-Generated-clause-run : goal.returns-in-Generated-clause-run
returns-in-Generated-clause-run g c =
    let opens = c.in-Generated.ensures.comes in
    generated_run (map (string_bytes {Z = Global}) c.args.words.now) (g.S.Store.seen c.args.store.now)
    (g.S.Store.seen c.open-opening.new.store) c.args.steps.now c.run_alone.new.steps (g.I.Source.seen c.args.input.now)
    c.in-Generated.all c.run_alone.result (g.O.Sink.seen c.args.out.now) (g.O.Sink.seen c.run_alone.new.out)
    (c.open-opening.ensures.files_kept, c.open-opening.ensures.store_goes_on)
    (ap g.S.Store.seen
    (c.in-Generated.ensures.not_asked c.in-Generated.all.width c.in-Generated.all.height opens.number opens.count
    opens.asked))
    c.in-Generated.ensures.comes
    (elim c.run_alone.ensures.ended [
      | inl l ↦ inl l
      | inr ended ↦ inr (ended c.args.steps.now (omega (arith, c.in-Generated.ensures.counted)))
    ])

pub returns-in-Generated-clause-words : goal.returns-in-Generated-clause-words
returns-in-Generated-clause-words g c = λ e. absurd (opens_not c.run_alone.result _ c.run_alone.ensures.served e tt)

pub returns-in-Generated-clause-words_only : goal.returns-in-Generated-clause-words_only
returns-in-Generated-clause-words_only g c =
    λ faulty. absurd (let opens = c.in-Generated.ensures.comes in
    faulty c.in-Generated.all.width c.in-Generated.all.height (FromNumber opens.number opens.count) opens.asked)

pub returns-in-Generated-clause-missing_counted : goal.returns-in-Generated-clause-missing_counted
returns-in-Generated-clause-missing_counted g c =
    λ e. absurd (opens_not c.run_alone.result _ c.run_alone.ensures.served e tt)

pub returns-in-Generated-clause-loads : goal.returns-in-Generated-clause-loads
returns-in-Generated-clause-loads g c = λ ends. absurd (c.run_alone.ensures.served ends)

pub returns-in-Generated-clause-refused : goal.returns-in-Generated-clause-refused
returns-in-Generated-clause-refused g c = λ e. absurd (opens_not c.run_alone.result _ c.run_alone.ensures.served e tt)

pub returns-in-Generated-clause-store_fault_counted : goal.returns-in-Generated-clause-store_fault_counted
returns-in-Generated-clause-store_fault_counted g c =
    λ e. absurd (opens_not c.run_alone.result _ c.run_alone.ensures.served e tt)

pub returns-in-Generated-clause-input_fault_counted : goal.returns-in-Generated-clause-input_fault_counted
returns-in-Generated-clause-input_fault_counted g c = λ e. absurd (c.run_alone.ensures.no_input e)

pub returns-in-Generated-clause-script_long : goal.returns-in-Generated-clause-script_long
returns-in-Generated-clause-script_long g c = λ e. absurd (c.run_alone.ensures.not_long e)

pub returns-in-Generated-clause-complete : goal.returns-in-Generated-clause-complete
returns-in-Generated-clause-complete g c = λ can read fine i o. c.run_alone.ensures.complete o

pub returns-in-Generated-clause-complete_generated : goal.returns-in-Generated-clause-complete_generated
returns-in-Generated-clause-complete_generated g c = λ asked o. c.run_alone.ensures.complete o

pub returns-in-Generated-clause-words_touch_nothing : goal.returns-in-Generated-clause-words_touch_nothing
returns-in-Generated-clause-words_touch_nothing g c =
    λ faulty. absurd (let opens = c.in-Generated.ensures.comes in
    faulty c.in-Generated.all.width c.in-Generated.all.height (FromNumber opens.number opens.count) opens.asked)

pub returns-in-FaultyWords-clause-run : goal.returns-in-FaultyWords-clause-run
returns-in-FaultyWords-clause-run g c =
    line_run _ (g.S.Store.seen c.args.store.now) (g.S.Store.seen c.open-opening.new.store) _ _
    (g.I.Source.seen c.args.input.now) faulty_words c.finish.result (g.O.Sink.seen c.args.out.now)
    (g.O.Sink.seen c.finish.new.out) (c.open-opening.ensures.files_kept, c.open-opening.ensures.store_goes_on) tt
    (λ all. ((λ e. cc), (λ e. cc))) c.in-FaultyWords.ensures.comes c.finish.ensures.done c.finish.ensures.cut

pub returns-in-FaultyWords-clause-loads : goal.returns-in-FaultyWords-clause-loads
returns-in-FaultyWords-clause-loads g c =
    opened_nothing g.S.Store.load_leaves g.S.Store.seen _ c.finish.result c.args.store.now c.open-opening.new.store
    (g.O.Sink.seen c.args.out.now).written (g.O.Sink.seen c.finish.new.out).written faulty_words
    c.in-FaultyWords.ensures.comes c.in-FaultyWords.ensures.loads
    (inl (record { done = c.finish.ensures.done; cut = c.finish.ensures.cut }))

pub returns-in_default : goal.returns-in_default
returns-in_default g c =
    let before = g.S.Store.seen c.args.store.now in
    let after = g.S.Store.seen c.open-opening.new.store in
    let written = g.O.Sink.seen c.args.out.now in
    let later = g.O.Sink.seen c.report.new.out in
    let words = map (string_bytes {Z = Global}) c.args.words.now in
    let kept : KeepsFiles before after = (c.open-opening.ensures.files_kept, c.open-opening.ensures.store_goes_on) in
    let caused = caused_by_loads g.S.Store.load_leaves g.S.Store.seen c.args.store.now c.open-opening.new.store words
    (open_outcome c.open-opening.result) c.open-opening.ensures.loads in
    let run = unopened_run words before after c.args.steps.now c.open-opening.new.steps c.open-opening.result
    c.report.result written later kept c.open-opening.ensures.comes caused c.in_default.not-FaultyWords
    c.in_default.not-Opened c.in_default.not-Generated c.report.ensures.line (g.I.Source.seen c.args.input.now) in
    let cause = unopened_causes words before after c.args.steps.now c.open-opening.new.steps c.open-opening.result
    c.report.result written later kept c.open-opening.ensures.comes caused c.in_default.not-FaultyWords
    c.in_default.not-Opened c.in_default.not-Generated c.report.ensures.line in
    record {
      run = run;
      words = λ e. absurd (cause.not_words e);
      words_only = cause.words_only;
      missing_counted = cause.missing_counted;
      loads =
          opened_nothing g.S.Store.load_leaves g.S.Store.seen words c.report.result c.args.store.now
          c.open-opening.new.store written.written later.written (open_outcome c.open-opening.result)
          c.open-opening.ensures.comes c.open-opening.ensures.loads c.report.ensures.line;
      refused = cause.refused;
      store_fault_counted = cause.fault_counted;
      input_fault_counted = λ e. absurd (cause.not_input e);
      output_fault_counted = c.report.ensures.counted;
      script_long = λ e. absurd (cause.not_long e);
      complete = λ can read fine i o.
          inr (cause.complete (c.open-opening.ensures.complete can fine) (λ e. o (c.report.ensures.counted e)));
      words_touch_nothing = λ faulty. (
        (c.open-opening.ensures.untouched faulty).0,
        refl,
        (c.open-opening.ensures.untouched faulty).1,
      );
      complete_generated = λ asked o.
          inr (cause.complete_generated
          (c.open-opening.ensures.generated asked.0 asked.1 asked.2 asked.3 asked.4)
          (λ e. o (c.report.ensures.counted e)));
      generated_touches_nothing = λ asked.
          (c.open-opening.ensures.not_asked asked.0 asked.1 asked.2 asked.3 asked.4, refl);
      untouched_unless_asked = c.open-opening.ensures.untouched_unless_asked;
      unread = λ e. refl;
      unread_unless_opened = inl refl;
      store_goes_on = c.open-opening.ensures.store_goes_on;
      input_goes_on = source_goes_on_refl _;
      output_goes_on = c.report.ensures.output_goes_on;
    }
